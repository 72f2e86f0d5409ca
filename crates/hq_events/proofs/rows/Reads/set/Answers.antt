use Rattle.std.proofs.Common.{◌≡◌, ℕ, ◌<◌, ◌+◌, ◌++◌, List, Option, Some, None, inl, [], map, length, slice_index_or, slice_set, sym, ◌∙◌, ap, subst, arith}
use Rattle.hq_events.proofs.Wholes.{no_whole, one_counted}
use Rattle.hq_events.proofs.rows.Reads.set.Goals as goal

pub index_mut-requires : goal.index_mut-requires
index_mut-requires c =
    let w = c.self.inside.whole.items in
    let b = c.self.inside.bytes.items in
    let there : c.args.entry < length (map Some w ++ b) = subst (λ (xs : List (Option ℕ)). c.args.entry < length xs) (sym c.self.view_is) c.requires.there in
    let none : w ≡ [] = no_whole w b c.args.entry c.self.invariant.one there (subst (λ (xs : List (Option ℕ)). slice_index_or xs c.args.entry None ≡ None) (sym c.self.view_is) c.requires.fresh) in
    let low : c.args.entry < length b = subst (λ (x : List ℕ). c.args.entry < length (map Some x ++ b)) none there in
    omega (arith, low, c.self.inside.bytes.ok.0)

pub invariant_of-self : goal.invariant_of-self
invariant_of-self c =
    let w = c.self.inside.whole.items in
    let b = c.self.inside.bytes.items in
    let there : c.args.entry < length (map Some w ++ b) = subst (λ (xs : List (Option ℕ)). c.args.entry < length xs) (sym c.self.view_is) c.requires.there in
    let fresh : slice_index_or (map Some w ++ b) c.args.entry None ≡ None = subst (λ (xs : List (Option ℕ)). slice_index_or xs c.args.entry None ≡ None) (sym c.self.view_is) c.requires.fresh in
    let none : w ≡ [] = no_whole w b c.args.entry c.self.invariant.one there fresh in
    let low : c.args.entry < length b = subst (λ (x : List ℕ). c.args.entry < length (map Some x ++ b)) none there in
    let unread : slice_index_or b c.args.entry None ≡ None = subst (λ (x : List ℕ). slice_index_or (map Some x ++ b) c.args.entry None ≡ None) none fresh in
    record {
      count = ap (λ n. n + 1) c.self.invariant.count ∙ sym (one_counted b c.args.entry c.args.byte low unread);
      one = inl (ap length none);
    }

pub returns : goal.returns
returns c =
    let w = c.self.inside.whole.items in
    let b = c.self.inside.bytes.items in
    let there : c.args.entry < length (map Some w ++ b) = subst (λ (xs : List (Option ℕ)). c.args.entry < length xs) (sym c.self.view_is) c.requires.there in
    let none : w ≡ [] = no_whole w b c.args.entry c.self.invariant.one there (subst (λ (xs : List (Option ℕ)). slice_index_or xs c.args.entry None ≡ None) (sym c.self.view_is) c.requires.fresh) in
    ap (λ (x : List ℕ). map Some x ++ slice_set b c.args.entry (Some c.args.byte)) none
    ∙ ap (λ (x : List ℕ). slice_set (map Some x ++ b) c.args.entry (Some c.args.byte)) (sym none)
    ∙ ap (λ (xs : List (Option ℕ)). slice_set xs c.args.entry (Some c.args.byte)) c.self.view_is
