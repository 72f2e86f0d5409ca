-- Drafts in lists that stand one behind another.
use Rattle.std.proofs.Common.{◌≡◌, ℕ, zero, suc, ◌+◌, ◌<◌, List, [], ◌∷◌, ◌++◌, length, refl, sym, ◌∙◌, ap, subst, arith, Bool, true, false, ◌||◌, append_assoc, append-nil, take, map, Some, slice_get, slice_index_or}
use Rattle.std.specs.Prelude.{All}
use Rattle.std.specs.Global.{Vec}
use Rattle.std.proofs.lemmas.List.{take_more, map-append, get_or-append-add}
use Rattle.std.proofs.Math.ListN.{get_or-append, length-append}
use Rattle.std.proofs.lemmas.List.Folds.{list_any_at}
use Rattle.std.proofs.lemmas.Grind.{flat_map-append}
use Rattle.std.proofs.lemmas.Option.{slice_get-get_or, slice_get_within, get_or_from_slice_get}
use Rattle.hq_model.specs.Job.{Job}
use Rattle.hq_derive.specs.Needed.{Widens, IsNeeded, HasRoom}
use Rattle.hq_audit.specs.declared.draft.Draft.{Draft}
use Rattle.hq_audit.specs.declared.packed.Packed.{Packed}
use Rattle.hq_audit.specs.declared.drafting.Drafts.{Drafts}
use Rattle.hq_audit.specs.Packed.{unpacked}
use Rattle.hq_audit.specs.Drafted.{seen, listed, drafts_of, any_chained, is_chained, AreDrafts, AllDrafts, Longer, DraftsGo, DraftsJoin}
use Rattle.hq_audit.specs.Audited.{if_there}
use Rattle.hq_audit.proofs.Pairing.{longer_same, drafts_behind}
use Rattle.hq_audit.proofs.Resting.{drafts_more}

-- ---- lists

pub seen_push : (v w : Vec Packed) (x : Packed) (d : Draft) → w.items ≡ v.items ++ x ∷ [] → unpacked x ≡ d → seen w ≡ seen v ++ d ∷ []
seen_push v w x d e is = ap (map unpacked) e ∙ map-append unpacked v.items (x ∷ []) ∙ ap (λ y. seen v ++ y ∷ []) is

pub lists_push : (lists : List (Vec Packed)) (list : Vec Packed) → listed (lists ++ list ∷ []) ≡ listed lists ++ seen list
lists_push lists list = flat_map-append seen lists (list ∷ []) ∙ ap (λ ds. listed lists ++ ds) (append-nil (seen list))

pub lists_more : (lists : List (Vec Packed)) (i : ℕ) (list : Vec Packed) → i < length lists → list ≡ slice_index_or lists i list → listed (take (i + 1) lists) ≡ listed (take i lists) ++ seen list
lists_more lists i list low is =
    ap listed (take_more lists i list low ∙ ap (λ v. take i lists ++ v ∷ []) (sym is)) ∙ lists_push (take i lists) list

-- ---- what is so of all drafts is so of each one of a list

first_ones : (P : Draft → Type 0) (xs ys : List Draft) → All P (xs ++ ys) → All P xs
first_ones P xs ys all = λ k d low. subst P (get_or-append xs ys d k low) (all k d (let both : length (xs ++ ys) ≡ length xs + length ys = length-append xs ys in omega (arith, low, both)))

others : (P : Draft → Type 0) (xs ys : List Draft) → All P (xs ++ ys) → All P ys
others P xs ys all = λ k d low. subst P (get_or-append-add xs ys k d) (all (length xs + k) d (let both : length (xs ++ ys) ≡ length xs + length ys = length-append xs ys in omega (arith, low, both)))

pub of_list : (P : Draft → Type 0) (lists : List (Vec Packed)) (i k : ℕ) (d : Draft) → slice_get (if_there (slice_get lists i)) k ≡ Some d → All P (listed lists) → P d
of_list P [] zero k d e all = absurd (let low : k < 0 = slice_get_within [] k d e in omega (arith, low))
of_list P [] (suc i) k d e all = absurd (let low : k < 0 = slice_get_within [] k d e in omega (arith, low))
of_list P (v ∷ vs) zero k d e all =
    subst P (get_or_from_slice_get (seen v) k d d e) (first_ones P (seen v) (listed vs) all k d (slice_get_within (seen v) k d e))
of_list P (v ∷ vs) (suc i) k d e all = of_list P vs i k d e (others P (seen v) (listed vs) all)

pub each_of_list : (P : Draft → Type 0) (lists : List (Vec Packed)) (i : ℕ) (list : Vec Packed) → i < length lists → list ≡ slice_index_or lists i list → All P (listed lists) → All P (seen list)
each_of_list P lists i list low is all = λ k d within.
    let there : slice_get lists i ≡ Some list = slice_get-get_or lists i list low ∙ ap (λ v. Some v) (sym is) in
    of_list P lists i k (slice_index_or (seen list) k d) (ap (λ o. slice_get (if_there o) k) there ∙ slice_get-get_or (seen list) k d within) all

pub none_chained : (ds : List Draft) → any_chained ds ≡ false → All (λ d. is_chained d.means ≡ false) ds
none_chained ds none = λ k d low. by k d low (is_chained (slice_index_or ds k d).means) refl
  where
    by : (k : ℕ) (d : Draft) → k < length ds → (b : Bool) → is_chained (slice_index_or ds k d).means ≡ b → is_chained (slice_index_or ds k d).means ≡ false
    by k d low true e = absurd (let t : true ≡ false = sym (list_any_at (λ (x : Draft). is_chained x.means) ds k d low e) ∙ none in cc)
    by k d low false e = e

-- ---- drafts

-- a new list behind the full ones
pub turned_same : (full : List (Vec Packed)) (last next : Vec Packed) → next.items ≡ [] → listed (full ++ last ∷ []) ++ seen next ≡ listed full ++ seen last
turned_same full last next none = ap (λ ds. listed (full ++ last ∷ []) ++ map unpacked ds) none ∙ append-nil (listed (full ++ last ∷ [])) ∙ lists_push full last

pub turned_goes : (job : Job) (old new : Drafts) → AreDrafts job old → new.needs ≡ old.needs → new.chained ≡ old.chained → drafts_of new ≡ drafts_of old → DraftsGo job old new
turned_goes job old new are needs chained same = record {
  are = record {
    room = subst (λ n. HasRoom job n) (sym needs) are.room;
    each = subst (λ n. AllDrafts job (IsNeeded n) (drafts_of new)) (sym needs) (subst (AllDrafts job (IsNeeded old.needs)) (sym same) are.each);
    chained = chained ∙ are.chained ∙ ap any_chained (sym same);
  };
  longer = subst (Longer (drafts_of old)) (sym same) (longer_same (drafts_of old));
}

-- those of others behind
pub joined_lists : (full others : List (Vec Packed)) (last next : Vec Packed) → listed ((full ++ last ∷ []) ++ others) ++ seen next ≡ (listed full ++ seen last) ++ (listed others ++ seen next)
joined_lists full others last next =
    ap (λ ds. ds ++ seen next) (flat_map-append seen (full ++ last ∷ []) others ∙ ap (λ ds. ds ++ listed others) (lists_push full last))
    ∙ append_assoc (listed full ++ seen last) (listed others) (seen next)

pub drafts_join : (job : Job) (old others new : Drafts) → AreDrafts job old → AreDrafts job others → Widens job old.needs new.needs → Widens job others.needs new.needs
    → drafts_of new ≡ drafts_of old ++ drafts_of others → new.chained ≡ (old.chained || others.chained) → DraftsJoin job old others new
drafts_join job old others new are more w taken e f = record {
  are = drafts_behind job old new (drafts_of others) are w (drafts_more (IsNeeded others.needs) (IsNeeded new.needs) taken.needed job (drafts_of others) more.each) e (f ∙ ap (λ b. old.chained || b) more.chained);
  joined = e;
}
