-- Dispatches and their fields.
use Rattle.std.proofs.Common.{◌≡◌, ℕ, zero, suc, ◌≤◌, List, [], ◌∷◌, length, get_or, leb, false, refl, sym, ap, subst, ◌∙◌, arith}
use Rattle.std.specs.Prelude.{None, Some, Result, Ok}
use Rattle.std.specs.Coded.{le_prop}
use Rattle.std.proofs.Math.Nat.{ℕ_set}
use Rattle.std.proofs.lemmas.Grind.{common_steps}
use Rattle.std.proofs.lemmas.Bool.{lt-leb}
use Rattle.hq_packet.specs.declared.packet.Head.{Head}
use Rattle.hq_packet.specs.declared.packet.Kernel.{Kernel}
use Rattle.hq_packet.specs.declared.packet.KernelFields.{KernelFields}
use Rattle.hq_packet.specs.declared.fault.PacketFault.{PacketFault}
use Rattle.hq_packet.specs.Sizes.{AreSizes}
use Rattle.hq_packet.specs.Faults.{first_of, size_tests}
use Rattle.hq_packet.specs.Dispatches.{fields_of, FaultlessFields, OneDispatch}

-- ---- a dispatch is its fields

abbrev pub Parts : Type 0
Parts = Head × ℕ × List ℕ × List ℕ × ℕ × ℕ × ℕ × ℕ × ℕ

abbrev pub Valid : Parts → Type 0
Valid d = (1 ≤ d.1) × (d.1 ≤ 3) × AreSizes d.1 d.2 × AreSizes d.1 d.3

Valid-prop : (d : Parts) (v w : Valid d) → v ≡ w
Valid-prop d = hlevel (le_prop, ℕ_set)

abbrev pub make : (d : Parts) → Valid d → Kernel
make d v = record { head = d.0; dimensions = d.1; group = d.2; grid = d.3; private_size = d.4; group_size = d.5; object = d.6; kernarg = d.7; completion = d.8; some_dimension = v.0; dimensions_fit = v.1; group_sized = v.2; grid_sized = v.3 }

abbrev pub parts : Kernel → Parts
parts k = (k.head, k.dimensions, k.group, k.grid, k.private_size, k.group_size, k.object, k.kernarg, k.completion)

abbrev pub valid : (k : Kernel) → Valid (parts k)
valid k = (k.some_dimension, k.dimensions_fit, k.group_sized, k.grid_sized)

abbrev pub made : Head → ℕ → List ℕ → List ℕ → ℕ → ℕ → ℕ → ℕ → ℕ → Parts
made h d g r a b c e f = (h, d, g, r, a, b, c, e, f)

pub make_same : (d e : Parts) → d ≡ e → (v : Valid d) (w : Valid e) → make d v ≡ make e w
make_same d e same v = subst (λ (x : Parts). (w : Valid x) → make d v ≡ make x w) same (λ w. ap (make d) (Valid-prop d v w))

pub parts_same : (a0 b0 : Head) (a1 b1 : ℕ) (a2 b2 a3 b3 : List ℕ) (a4 b4 a5 b5 a6 b6 a7 b7 a8 b8 : ℕ) → a0 ≡ b0 → a1 ≡ b1 → a2 ≡ b2 → a3 ≡ b3 → a4 ≡ b4 → a5 ≡ b5 → a6 ≡ b6 → a7 ≡ b7 → a8 ≡ b8
    → made a0 a1 a2 a3 a4 a5 a6 a7 a8 ≡ made b0 b1 b2 b3 b4 b5 b6 b7 b8
parts_same a0 b0 a1 b1 a2 b2 a3 b3 a4 b4 a5 b5 a6 b6 a7 b7 a8 b8 e0 e1 e2 e3 e4 e5 e6 e7 e8 = cc

abbrev parts_in : KernelFields → Parts
parts_in f = (f.head, f.dimensions, f.group, f.grid, f.private_size, f.group_size, f.object, f.kernarg, f.completion)

pub one_dispatch : OneDispatch
one_dispatch k j e = make_same (parts k) (parts j) (ap parts_in e) (valid k) (valid j)

-- ---- the fields of a dispatch have no fault

pub sizes_pass : (used a b c x y z : ℕ) → 1 ≤ used → used ≤ 3 → AreSizes used (a ∷ b ∷ c ∷ []) → AreSizes used (x ∷ y ∷ z ∷ []) → first_of (size_tests used (a ∷ b ∷ c ∷ []) (x ∷ y ∷ z ∷ [])) ≡ None
sizes_pass zero a b c x y z low high p q = absurd (omega arith)
sizes_pass (suc zero) a b c x y z low high p q =
    let p0 = p 0 (omega arith) in let p1 = p 1 (omega arith) in let p2 = p 2 (omega arith) in
    let q0 = q 0 (omega arith) in let q1 = q 1 (omega arith) in let q2 = q 2 (omega arith) in
    grind (arith, common_steps)
sizes_pass (suc (suc zero)) a b c x y z low high p q =
    let p0 = p 0 (omega arith) in let p1 = p 1 (omega arith) in let p2 = p 2 (omega arith) in
    let q0 = q 0 (omega arith) in let q1 = q 1 (omega arith) in let q2 = q 2 (omega arith) in
    grind (arith, common_steps)
sizes_pass (suc (suc (suc zero))) a b c x y z low high p q =
    let p0 = p 0 (omega arith) in let p1 = p 1 (omega arith) in let p2 = p 2 (omega arith) in
    let q0 = q 0 (omega arith) in let q1 = q 1 (omega arith) in let q2 = q 2 (omega arith) in
    grind (arith, common_steps)
sizes_pass (suc (suc (suc (suc n)))) a b c x y z low high p q = absurd (omega arith)

grids_pass : (used a b c : ℕ) (grid : List ℕ) → length grid ≡ 3 → 1 ≤ used → used ≤ 3 → AreSizes used (a ∷ b ∷ c ∷ []) → AreSizes used grid → first_of (size_tests used (a ∷ b ∷ c ∷ []) grid) ≡ None
grids_pass used a b c [] len low high p q = absurd (omega arith)
grids_pass used a b c (x ∷ []) len low high p q = absurd (omega arith)
grids_pass used a b c (x ∷ y ∷ []) len low high p q = absurd (omega arith)
grids_pass used a b c (x ∷ y ∷ z ∷ []) len low high p q = sizes_pass used a b c x y z low high p q
grids_pass used a b c (x ∷ y ∷ z ∷ w ∷ more) len low high p q = absurd (omega arith)

groups_pass : (used : ℕ) (group grid : List ℕ) → length group ≡ 3 → length grid ≡ 3 → 1 ≤ used → used ≤ 3 → AreSizes used group → AreSizes used grid → first_of (size_tests used group grid) ≡ None
groups_pass used [] grid len also low high p q = absurd (omega arith)
groups_pass used (x ∷ []) grid len also low high p q = absurd (omega arith)
groups_pass used (x ∷ y ∷ []) grid len also low high p q = absurd (omega arith)
groups_pass used (x ∷ y ∷ z ∷ []) grid len also low high p q = grids_pass used x y z grid also low high p q
groups_pass used (x ∷ y ∷ z ∷ w ∷ more) grid len also low high p q = absurd (omega arith)

pub faultless_fields : FaultlessFields
faultless_fields k group grid =
    let small : leb 4 k.dimensions ≡ false = lt-leb 4 k.dimensions (omega (arith, k.dimensions_fit)) in
    let sizes = groups_pass k.dimensions k.group k.grid group grid k.some_dimension k.dimensions_fit k.group_sized k.grid_sized in
    rw small (rw small at sizes)

-- ---- which dispatch is made of fields

pub three : (xs : List ℕ) (a b c : ℕ) → length xs ≡ 3 → a ≡ get_or xs 0 0 → b ≡ get_or xs 1 0 → c ≡ get_or xs 2 0 → xs ≡ a ∷ b ∷ c ∷ []
three [] a b c e p q r = absurd (omega arith)
three (x ∷ []) a b c e p q r = absurd (omega arith)
three (x ∷ y ∷ []) a b c e p q r = absurd (omega arith)
three (x ∷ y ∷ z ∷ []) a b c e p q r = cc
three (x ∷ y ∷ z ∷ w ∷ xs) a b c e p q r = absurd (omega arith)

pub none_refused : (fields : KernelFields) (fault : PacketFault) → length fields.group ≡ 3 → length fields.grid ≡ 3
    → first_of (size_tests fields.dimensions (get_or fields.group 0 0 ∷ get_or fields.group 1 0 ∷ get_or fields.group 2 0 ∷ []) fields.grid) ≡ Some fault
    → (k : Kernel) → fields_of k ≡ fields → ⊥
none_refused fields fault group grid refused k e =
    let g : k.group ≡ fields.group = ap (λ (f : KernelFields). f.group) e in
    let h : k.grid ≡ fields.grid = ap (λ (f : KernelFields). f.grid) e in
    let passes = groups_pass k.dimensions k.group k.grid (ap length g ∙ group) (ap length h ∙ grid) k.some_dimension k.dimensions_fit k.group_sized k.grid_sized in
    let whole = three fields.group _ _ _ group refl refl refl in
    let refused_all = subst (λ (sizes : List ℕ). first_of (size_tests fields.dimensions sizes fields.grid) ≡ Some fault) (sym whole) refused in
    let same = ap (λ (f : KernelFields). first_of (size_tests f.dimensions f.group f.grid)) e in
    absurd (cc)

pub made_again : (fields : KernelFields) (kernel : Kernel) → fields_of kernel ≡ fields → (k : Kernel) → fields_of k ≡ fields → ◌≡◌ {A = Result Kernel PacketFault} (Ok kernel) (Ok k)
made_again fields kernel e k same = ap (λ (j : Kernel). Ok j) (one_dispatch kernel k (e ∙ sym same))
