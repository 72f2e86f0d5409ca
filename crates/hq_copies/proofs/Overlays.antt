-- Runs of bytes that are put over others, at their end or one byte after another.
use Rattle.std.proofs.Common.{◌≡◌, ℕ, zero, suc, ◌+◌, ◌-◌, ◌<◌, ◌≤◌, true, false, not, cond, inl, inr, List, [], ◌∷◌, ◌++◌, length, take, drop, refl, sym, ◌∙◌, ap, ap₂, subst, ltb, get_or, arith, Option, Some, None, is_some, slice_get, length-append}
use Rattle.std.proofs.lemmas.Bool.{cases_lt, cond-true, cond-false, lt-ltb, le-ltb, true≢false}
use Rattle.std.proofs.lemmas.List.{get_or-take, get_or-drop, get_or_append_left, get_or-append_right, length-take-le, length-drop}
use Rattle.std.proofs.lemmas.Option.{slice_get_past, slice_get-get_or}
use Rattle.hq_copies.specs.Edges.{has, IsRising, is_odd, toggled, ceiling, byte_at, Covered, IsRuns}
use Rattle.hq_copies.specs.Copies.{count_below}
use Rattle.hq_copies.specs.Marks.{byte_of, AreRuns, SameRuns}
use Rattle.hq_copies.specs.declared.runs.Runs.{Runs}
use Rattle.hq_copies.specs.Overlays.{run_at, or_lower, Over}
use Rattle.hq_copies.proofs.Edges.{not_not, has_beyond, toggled_before, toggled_from, toggled_rising, toggled_odd}
use Rattle.hq_copies.proofs.Counts.{count_same, count_less, count_mono, all_held, step_true, step_false, at_true, at_other}

-- ---- where a run has bytes

pub run_before : (start : ℕ) (bytes : List ℕ) (n : ℕ) → n < start → run_at start bytes n ≡ None
run_before start bytes n l = cond-true (ltb n start) None (slice_get bytes (n - start)) (lt-ltb n start l)

pub run_from : (start : ℕ) (bytes : List ℕ) (n : ℕ) → start ≤ n → run_at start bytes n ≡ slice_get bytes (n - start)
run_from start bytes n l = cond-false (ltb n start) None (slice_get bytes (n - start)) (le-ltb n start l)

pub run_past : (start : ℕ) (bytes : List ℕ) (n : ℕ) → start + length bytes ≤ n → run_at start bytes n ≡ None
run_past start bytes n l = run_from start bytes n (omega arith) ∙ slice_get_past bytes (n - start) (omega arith)

pub run_held : (start : ℕ) (bytes : List ℕ) (n : ℕ) → start ≤ n → n < start + length bytes → run_at start bytes n ≡ Some (get_or bytes (n - start) 0)
run_held start bytes n l h = run_from start bytes n l ∙ slice_get-get_or bytes (n - start) 0 (omega arith)

-- ---- the last edge

last_edge : (from : ℕ) (edges : List ℕ) (i n : ℕ) → IsRising from edges → suc i ≡ length edges → get_or edges i 0 ≤ n → ceiling edges ≤ n
last_edge from [] i n r e l = absurd (omega arith)
last_edge from (x ∷ []) zero n r e l = omega arith
last_edge from (x ∷ []) (suc i) n r e l = absurd (omega arith)
last_edge from (x ∷ y ∷ edges) zero n r e l = absurd (omega arith)
last_edge from (x ∷ y ∷ edges) (suc i) n r e l =
    let rest : ceiling (y ∷ edges) ≤ n = last_edge (suc x) (y ∷ edges) i n r.1 (omega arith) l in
    omega (arith, rest, r.1.0)

pub none_from : (edges bytes : List ℕ) (i n m : ℕ) → IsRuns edges bytes → suc i ≡ length edges → get_or edges i 0 ≤ n → n ≤ m → has edges m ≡ false
none_from edges bytes i n m runs e l h = let c = last_edge 0 edges i n runs.rising e l in has_beyond edges m (omega (arith, c)) ∙ runs.ends

pub none_of_none : (edges : List ℕ) (m : ℕ) → edges ≡ [] → has edges m ≡ false
none_of_none edges m e = ap (λ t. has t m) e

pub none_last : (edges : List ℕ) → None ≡ slice_get edges (length edges - 1) → edges ≡ []
none_last [] e = refl
none_last (x ∷ edges) e = absurd (true≢false (ap is_some (sym (e ∙ slice_get-get_or (x ∷ edges) (length (x ∷ edges) - 1) 0 (omega arith)))))

-- ---- a run that is put in

counts_below : (edges new : List ℕ) (start end n : ℕ) → Covered edges start end new → n ≤ start → count_below (has new) n ≡ count_below (has edges) n
counts_below edges new start end n a l = count_same (has edges) (has new) n (λ m h. a.below m (omega arith))

counts_within : (edges new : List ℕ) (start end k : ℕ) → Covered edges start end new → start + k ≤ end → count_below (has new) (start + k) ≡ count_below (has edges) start + k
counts_within edges new start end zero a l =
    let e : start + 0 ≡ start = omega arith in
    let f : count_below (has new) (start + 0) ≡ count_below (has edges) start = ap (count_below (has new)) e ∙ counts_below edges new start end start a (omega arith) in
    omega (arith, f)
counts_within edges new start end (suc k) a l =
    let e : start + suc k ≡ suc (start + k) = omega arith in
    let f : count_below (has new) (start + suc k) ≡ count_below (has new) (suc (start + k)) = ap (count_below (has new)) e in
    let g : count_below (has new) (suc (start + k)) ≡ count_below (has new) (start + k) + 1 = step_true (has new) (start + k) (a.within (start + k) (omega arith) (omega arith)) in
    let h : count_below (has new) (start + k) ≡ count_below (has edges) start + k = counts_within edges new start end k a (omega arith) in
    omega (arith, f, g, h)

counts_past : (edges new : List ℕ) (start end k : ℕ) → Covered edges start end new → count_below (has new) (end + k) + count_below (has edges) end ≡ count_below (has new) end + count_below (has edges) (end + k)
counts_past edges new start end zero a =
    let e : end + 0 ≡ end = omega arith in
    let f : count_below (has new) (end + 0) ≡ count_below (has new) end = ap (count_below (has new)) e in
    let g : count_below (has edges) (end + 0) ≡ count_below (has edges) end = ap (count_below (has edges)) e in
    omega (arith, f, g)
counts_past edges new start end (suc k) a =
    let e : end + suc k ≡ suc (end + k) = omega arith in
    let f : count_below (has new) (end + suc k) ≡ count_below (has new) (end + k) + cond {A = ℕ} (has new (end + k)) 1 0 = ap (count_below (has new)) e in
    let g : count_below (has edges) (end + suc k) ≡ count_below (has edges) (end + k) + cond {A = ℕ} (has edges (end + k)) 1 0 = ap (count_below (has edges)) e in
    let h : cond {A = ℕ} (has new (end + k)) 1 0 ≡ cond {A = ℕ} (has edges (end + k)) 1 0 = ap (λ t. cond {A = ℕ} t 1 0) (a.past (end + k) (omega arith)) in
    omega (arith, f, g, h, counts_past edges new start end k a)

-- the count at a number of the run
count_at : (edges new : List ℕ) (start end n : ℕ) → Covered edges start end new → start ≤ n → n ≤ end → count_below (has new) n ≡ count_below (has edges) start + (n - start)
count_at edges new start end n a l h =
    let e : start + (n - start) ≡ n = omega arith in
    ap (count_below (has new)) (sym e) ∙ counts_within edges new start end (n - start) a (omega arith)

-- and behind it
count_after : (edges new : List ℕ) (start end n : ℕ) → Covered edges start end new → start ≤ end → end ≤ n → count_below (has new) n + count_below (has edges) end ≡ count_below (has edges) start + (end - start) + count_below (has edges) n
count_after edges new start end n a low l =
    let e : end + (n - end) ≡ n = omega arith in
    let f : count_below (has new) (end + (n - end)) ≡ count_below (has new) n = ap (count_below (has new)) e in
    let g : count_below (has edges) (end + (n - end)) ≡ count_below (has edges) n = ap (count_below (has edges)) e in
    omega (arith, f, g, counts_past edges new start end (n - end) a, count_at edges new start end end a low (omega arith))

-- the bytes of the numbers from end on
pub record Behind (edges bytes : List ℕ) (end : ℕ) (tail : List ℕ) : Type 0 where
  pub enough : (n : ℕ) → end ≤ n → count_below (has edges) n ≤ count_below (has edges) end + length tail
  pub same : (n : ℕ) → end ≤ n → has edges n ≡ true → get_or tail (count_below (has edges) n - count_below (has edges) end) 0 ≡ get_or bytes (count_below (has edges) n) 0

pub behind_dropped : (edges bytes : List ℕ) (end j : ℕ) → IsRuns edges bytes → j ≡ count_below (has edges) end → Behind edges bytes end (drop j bytes)
behind_dropped edges bytes end j runs at = record {
  enough = λ n l. let e : length (drop j bytes) ≡ length bytes - j = length-drop j bytes in omega (arith, at, e, runs.enough n, runs.enough end);
  same = λ n l h.
      let e : j + (count_below (has edges) n - count_below (has edges) end) ≡ count_below (has edges) n = omega (arith, at, count_mono (has edges) end n l) in
      get_or-drop j bytes (count_below (has edges) n - count_below (has edges) end) 0 ∙ ap (λ k. get_or bytes k 0) e;
}

none_counted : (edges : List ℕ) (end k : ℕ) → ((n : ℕ) → end ≤ n → has edges n ≡ false) → count_below (has edges) (end + k) ≡ count_below (has edges) end
none_counted edges end zero none = let e : end + 0 ≡ end = omega arith in ap (count_below (has edges)) e
none_counted edges end (suc k) none =
    let e : end + suc k ≡ suc (end + k) = omega arith in
    ap (count_below (has edges)) e ∙ step_false (has edges) (end + k) (none (end + k) (omega arith)) ∙ none_counted edges end k none

pub behind_none : (edges bytes : List ℕ) (end : ℕ) → ((n : ℕ) → end ≤ n → has edges n ≡ false) → Behind edges bytes end []
behind_none edges bytes end none = record {
  enough = λ n l.
      let e : end + (n - end) ≡ n = omega arith in
      let f : count_below (has edges) (end + (n - end)) ≡ count_below (has edges) n = ap (count_below (has edges)) e in
      omega (arith, f, none_counted edges end (n - end) none);
  same = λ n l h. absurd (true≢false (sym h ∙ none n l));
}

pub put_runs : (edges bytes run tail : List ℕ) (start end i : ℕ) (new : List ℕ) → IsRuns edges bytes → i ≡ count_below (has edges) start → end ≡ start + length run → Covered edges start end new → Behind edges bytes end tail → IsRuns new (take i bytes ++ run ++ tail)
put_runs edges bytes run tail start end i new runs at past a b = record {
  rising = a.rising;
  ends = a.odd ∙ runs.ends;
  enough = λ n. elim (cases_lt n end) [
    | inl low ↦ elim (cases_lt n start) [
      | inl below ↦ omega (arith, size, counts_below edges new start end n a (omega arith), at, count_mono (has edges) n start (omega arith))
      | inr from ↦ omega (arith, size, at, past, count_at edges new start end n a from (omega arith))
    ]
    | inr high ↦ omega (arith, size, at, past, count_after edges new start end n a (omega (arith, past)) high, b.enough n high)
  ];
}
  where
    size : length (take i bytes ++ run ++ tail) ≡ i + length run + length tail
    size = length-append (take i bytes ++ run) tail ∙ ap (λ k. k + length tail) (length-append (take i bytes) run ∙ ap (λ k. k + length run) (length-take-le i bytes (omega (arith, at, runs.enough start))))

pub put_over : (edges bytes run tail : List ℕ) (start end i : ℕ) (new : List ℕ) → IsRuns edges bytes → i ≡ count_below (has edges) start → end ≡ start + length run → Covered edges start end new → Behind edges bytes end tail
    → Over (run_at start run) (byte_at (has edges) bytes) (byte_at (has new) (take i bytes ++ run ++ tail))
put_over edges bytes run tail start end i new runs at past a b n = elim (cases_lt n start) [
  | inl low ↦
      at_other (has edges) (has new) bytes (take i bytes ++ run ++ tail) n (a.below n low) (λ h.
      let c : count_below (has new) n ≡ count_below (has edges) n = counts_below edges new start end n a (omega arith) in
      let l : count_below (has edges) n < i = omega (arith, at, count_less (has edges) n start h low) in
      ap (λ k. get_or (take i bytes ++ run ++ tail) k 0) c
      ∙ get_or_append_left (take i bytes ++ run) tail 0 (count_below (has edges) n) (omega (arith, l, front))
      ∙ get_or_append_left (take i bytes) run 0 (count_below (has edges) n) (omega (arith, l, size))
      ∙ get_or-take i bytes (count_below (has edges) n) 0 l)
      ∙ ap (λ t. or_lower t (byte_at (has edges) bytes n)) (sym (run_before start run n low))
  | inr from ↦ elim (cases_lt n end) [
    | inl inside ↦
        let c : count_below (has new) n ≡ count_below (has edges) start + (n - start) = count_at edges new start end n a from (omega arith) in
        let k : count_below (has new) n - i ≡ n - start = omega (arith, c, at) in
        at_true (has new) (take i bytes ++ run ++ tail) n (a.within n from inside)
        ∙ ap Some
        (get_or_append_left (take i bytes ++ run) tail 0 (count_below (has new) n) (omega (arith, c, at, past, front))
        ∙ get_or-append_right (take i bytes) run i (count_below (has new) n) 0 size (omega (arith, c, at))
        ∙ ap (λ m. get_or run m 0) k)
        ∙ ap (λ t. or_lower t (byte_at (has edges) bytes n)) (sym (run_held start run n from (omega (arith, past))))
    | inr high ↦
        at_other (has edges) (has new) bytes (take i bytes ++ run ++ tail) n (a.past n high) (λ h.
        let c : count_below (has new) n + count_below (has edges) end ≡ count_below (has edges) start + (end - start) + count_below (has edges) n = count_after edges new start end n a (omega (arith, past)) high in
        let m : count_below (has edges) end ≤ count_below (has edges) n = count_mono (has edges) end n high in
        let k : count_below (has new) n - (i + length run) ≡ count_below (has edges) n - count_below (has edges) end = omega (arith, c, m, at, past) in
        get_or-append_right (take i bytes ++ run) tail (i + length run) (count_below (has new) n) 0 front (omega (arith, c, m, at, past))
        ∙ ap (λ x. get_or tail x 0) k
        ∙ b.same n high h)
        ∙ ap (λ t. or_lower t (byte_at (has edges) bytes n)) (sym (run_past start run n (omega (arith, past))))
  ]
]
  where
    size : length (take i bytes) ≡ i
    size = length-take-le i bytes (omega (arith, at, runs.enough start))

    front : length (take i bytes ++ run) ≡ i + length run
    front = length-append (take i bytes) run ∙ ap (λ k. k + length run) (length-take-le i bytes (omega (arith, at, runs.enough start)))

-- ---- where a run is put

-- behind all others
pub covered_last : (edges : List ℕ) (start end : ℕ) → IsRising 0 edges → start < end → ((n : ℕ) → start ≤ n → has edges n ≡ false) → Covered edges start end (toggled end (toggled start edges))
covered_last edges start end r l none = record {
  rising = toggled_rising end 0 (toggled start edges) (toggled_rising start 0 edges r (omega arith)) (omega arith);
  odd = toggled_odd end (toggled start edges) ∙ ap not (toggled_odd start edges) ∙ not_not (is_odd edges);
  below = λ n h. toggled_before end (toggled start edges) n (omega arith) ∙ toggled_before start edges n h;
  within = λ n h k. toggled_before end (toggled start edges) n k ∙ toggled_from start edges n h ∙ ap not (none n h);
  past = λ n h. toggled_from end (toggled start edges) n h ∙ ap not (toggled_from start edges n (omega arith)) ∙ not_not (has edges n);
}

-- where all numbers have a byte
pub covered_held : (edges : List ℕ) (start k : ℕ) → IsRising 0 edges → count_below (has edges) (start + k) ≡ count_below (has edges) start + k → Covered edges start (start + k) edges
covered_held edges start k r e = record { rising = r; odd = refl; below = λ n h. refl; within = all_held (has edges) start k e; past = λ n h. refl }

-- ---- one run over those behind it

pub over_behind : (run behind below : Option ℕ) → ((byte : ℕ) → run ≡ Some byte → behind ≡ None) → or_lower behind (or_lower run below) ≡ or_lower (or_lower run behind) below
over_behind None behind below apart = refl
over_behind (Some byte) behind below apart = ap (λ t. or_lower t (Some byte)) (apart byte refl)

pub run_below : (start : ℕ) (bytes : List ℕ) (n byte : ℕ) → run_at start bytes n ≡ Some byte → n < start + length bytes
run_below start bytes n byte e = elim (cases_lt n (start + length bytes)) [
  | inl low ↦ low
  | inr past ↦ absurd (true≢false (ap is_some (sym e ∙ run_past start bytes n past)))
]

-- ---- equal runs

pub same_byte : (old new : Runs) (n : ℕ) → SameRuns old new → byte_of new n ≡ byte_of old n
same_byte old new n same = ap₂ (λ es bs. byte_at (has es) bs n) same.0 same.1

pub same_are : (old new : Runs) → SameRuns old new → AreRuns old → AreRuns new
same_are old new same runs = subst (λ es. IsRuns es new.bytes.items) (sym same.0) (subst (λ bs. IsRuns old.edges.items bs) (sym same.1) runs)
