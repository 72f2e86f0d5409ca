-- A job as another with its own heads.
use Rattle.std.proofs.Common.{◌≡◌, refl, List, [], ◌∷◌, map, sym, ◌∙◌, ap}
use Rattle.hq_packet.specs.declared.packet.Head.{Head}
use Rattle.hq_packet.specs.declared.packet.Packet.{Packet}
use Rattle.hq_packet.specs.declared.packet.Packet.TheVariants as packet
use Rattle.hq_packet.specs.Parts.{head_of, with_head}
use Rattle.hq_tables.specs.declared.rows.Placed.{Placed}
use Rattle.hq_job.specs.Heads.{SameButHeads, placed_with_head}
use Rattle.hq_job.specs.Heads.{with_heads, heads_of, job_with_heads}
use Rattle.hq_job.specs.Value.{JobValue}
use Rattle.hq_job.proofs.GivenHeads.{bare, each_with, SamePackets}
use Rattle.hq_model.specs.Settings.{no_head}

second_is_left : (e : Packet) (first second : Head) → with_head (with_head e first) second ≡ with_head e second
second_is_left (packet.Kernel k) first second = refl
second_is_left (packet.Agent a) first second = refl
second_is_left (packet.And b) first second = refl
second_is_left (packet.Or b) first second = refl

own_head : (e : Packet) → with_head e (head_of e) ≡ e
own_head (packet.Kernel k) = refl
own_head (packet.Agent a) = refl
own_head (packet.And b) = refl
own_head (packet.Or b) = refl

over_bare : (x : Placed) (head : Head) → placed_with_head (bare x) head ≡ placed_with_head x head
over_bare x head = ap (λ (e : Packet). record x { packet = e }) (second_is_left x.packet no_head head)

own_placed : (x : Placed) → placed_with_head x (head_of x.packet) ≡ x
own_placed x = ap (λ (e : Packet). record x { packet = e }) (own_head x.packet)

one_is : (x y : Placed) → bare x ≡ bare y → placed_with_head x (head_of y.packet) ≡ y
one_is x y e = sym (over_bare x (head_of y.packet)) ∙ ap (λ z. placed_with_head z (head_of y.packet)) e ∙ over_bare y (head_of y.packet) ∙ own_placed y

all_are : (xs ys : List Placed) → SamePackets xs ys → with_heads xs (map (λ (p : Placed). head_of p.packet) ys) ≡ ys
all_are [] [] e = refl
all_are [] (y ∷ ys) e = absurd (cc)
all_are (x ∷ xs) [] e = absurd (cc)
all_are (x ∷ xs) (y ∷ ys) e = λ i. one_is x y (first (bare x) (bare y) (each_with no_head xs) (each_with no_head ys) e) i ∷ all_are xs ys (rest (bare x) (bare y) (each_with no_head xs) (each_with no_head ys) e) i
  where
    first : (a b : Placed) (ms ns : List Placed) → a ∷ ms ≡ b ∷ ns → a ≡ b
    first a b ms ns f = cc

    rest : (a b : Placed) (ms ns : List Placed) → a ∷ ms ≡ b ∷ ns → ms ≡ ns
    rest a b ms ns f = cc

-- where two jobs differ in nothing but heads, each is the other with its own
pub heads_make : (j k : JobValue) → SameButHeads j k → job_with_heads j (heads_of k) ≡ k
heads_make j k same = ap (λ (ps : List Placed). record j { packets = ps }) (all_are j.packets k.packets (ap (λ (x : JobValue). x.packets) same)) ∙ ap (λ (x : JobValue). record x { packets = k.packets }) same
