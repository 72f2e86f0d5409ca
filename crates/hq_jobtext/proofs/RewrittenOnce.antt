-- A text is rewritten in one way.
use Rattle.std.proofs.Common.{◌≡◌, ◌≢◌, ℕ, ◌⊎◌, inl, inr, List, [], ◌∷◌, slice_get, sym, ap, subst, ◌∙◌}
use Rattle.std.specs.List.{slice_split, join_with_byte}
use Rattle.std.proofs.lemmas.List.Splits.{join_with_byte-slice_split}
use Rattle.hq_packet.specs.declared.packet.Head.{Head}
use Rattle.hq_packet.specs.declared.packet.Packet as packet
use Rattle.hq_packet.specs.Parts.{head_of}
use Rattle.hq_text.specs.Lines.{is_line_feed, words_of}
use Rattle.hq_lines.specs.Heads.{WithHead}
use Rattle.hq_lines.specs.Meaning as says
use Rattle.hq_lines.proofs.PacketLines.{head_cases}
use Rattle.hq_lines.proofs.Whole.{one_meaning}
use Rattle.hq_jobtext.specs.Rewritten.{LineRewritten, stays, packet as rewritten, Rewritten, OneRewritten}
use Rattle.hq_tables.proofs.Lists.{some_is}

-- ---- one text

packet_is : (p q : packet.Packet) → says.Packet p ≡ says.Packet q → p ≡ q
packet_is p q e = cc

one_line : (line : List ℕ) (head : Head) (a b : List ℕ) → WithHead line head a → WithHead line head b → a ≡ b
one_line line head a b v w = by (head_cases (head_of v.sent) head) where
  same : head_of w.sent ≡ head_of v.sent
  same = ap head_of (packet_is w.sent v.sent (one_meaning (words_of line) (says.Packet w.sent) (says.Packet v.sent) w.says_it.words v.says_it.words))

  by : (head_of v.sent ≡ head) ⊎ (head_of v.sent ≢ head) → a ≡ b
  by (inl is) = v.kept is ∙ sym (w.kept (same ∙ is))
  by (inr other) = v.changed other ∙ sym (w.changed (λ e. other (sym same ∙ e)))

abbrev Same : List ℕ → List ℕ → List ℕ → List ℕ → Type 0
Same a b x y = (a ≡ b) × (x ≡ y)

parts_of : (n m : ℕ) (ns ms : List ℕ) → n ∷ ns ≡ m ∷ ms → (n ≡ m) × (ns ≡ ms)
parts_of n m ns ms e = (cc, cc)

one_turn : (heads : List Head) (numbers line a b x y : List ℕ) → LineRewritten heads numbers line a x → LineRewritten heads numbers line b y → Same a b x y
one_turn heads numbers line a b x y (stays none same left) (stays other is here) = (same ∙ sym is, left ∙ sym here)
one_turn heads numbers line a b x y (stays none same left) (rewritten n h is found w) = absurd (none (w.sent, w.says_it))
one_turn heads numbers line a b x y (rewritten n h is found w) (stays none same left) = absurd (none (w.sent, w.says_it))
one_turn heads numbers line a b x y (rewritten n h is found v) (rewritten m g are there w) =
    let p = parts_of n m x y (sym is ∙ are) in
    let head : h ≡ g = some_is h g (sym found ∙ (ap (λ k. slice_get heads k) p.0 ∙ there)) in
    (one_line line g a b (subst (λ (k : Head). WithHead line k a) head v) w, p.1)

one_list : (heads : List Head) (numbers : List ℕ) (olds a b : List (List ℕ)) → Rewritten heads numbers olds a → Rewritten heads numbers olds b → a ≡ b
one_list heads numbers [] a b r s = r.1 ∙ sym s.1
one_list heads numbers (old ∷ olds) a b r s =
    let turn = one_turn heads numbers old r.0 s.0 r.2 s.2 r.4 s.4 in
    let rest : r.1 ≡ s.1 = one_list heads s.2 olds r.1 s.1 (subst (λ (ns : List ℕ). Rewritten heads ns olds r.1) turn.1 r.5) s.5 in
    r.3 ∙ (ap (λ l. l ∷ r.1) turn.0 ∙ (ap (λ m. s.0 ∷ m) rest ∙ sym s.3))

pub one_rewritten : OneRewritten
one_rewritten heads job old a b r s =
    sym (join_with_byte-slice_split 10 a) ∙ (ap (join_with_byte 10) (one_list heads job.submissions (slice_split is_line_feed old) (slice_split is_line_feed a) (slice_split is_line_feed b) r s) ∙ join_with_byte-slice_split 10 b)
