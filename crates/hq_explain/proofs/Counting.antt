-- Pairs told of one behind another.
use Rattle.std.proofs.Common.{◌≡◌, ◌+◌, ◌++◌, ℕ, suc, List, [], Bool, true, false, IsTrue, Option, sym, subst, length, append_assoc, append-nil, add-one}
use Rattle.hq_job.specs.Value.{JobValue}
use Rattle.hq_model.specs.Job.{Job}
use Rattle.hq_graph.specs.Graph.{Is, Wrote}
use Rattle.hq_graph.proofs.Joining.{appends_more, appends_nothing, both}
use Rattle.hq_explain.specs.Explain.{PairText}
use Rattle.hq_explain.specs.Told.{AllText, Broken, IsPair, PairTold, RowTold, Told, closing_text, is_told}
use Rattle.hq_explain.specs.Told.Told.{start, row, apart, said, left}

-- ---- one pair

-- a text that grew by nothing
same_text : (job : JobValue) (order : Job) (all : Bool) (a b n : ℕ) (text : List ℕ) → Told job order all a b n text → Told job order all a b n (text ++ [])
same_text job order all a b n text t = subst (Told job order all a b n) (sym (append-nil text)) t

pub pair_apart : (x : Option (List ℕ)) (job : JobValue) (order : Job) (all : Bool) (a b count : ℕ) → ¬ IsPair order a b → Wrote x x (PairTold job order all a b count count)
pair_apart x job order all a b count never = record {
  text = [];
  says = λ before t. same_text job order all a (suc b) count before (apart never t);
  appends = appends_nothing x;
}

pub pair_left : (x : Option (List ℕ)) (job : JobValue) (order : Job) (all : Bool) (a b count : ℕ) → IsPair order a b → is_told all count ≡ false → Wrote x x (PairTold job order all a b count (count + 1))
pair_left x job order all a b count is f = record {
  text = [];
  says = λ before t. subst (λ n. Told job order all a (suc b) n (before ++ [])) (sym (add-one count)) (same_text job order all a (suc b) (suc count) before (left is f t));
  appends = appends_nothing x;
}

pub pair_said : (x y : Option (List ℕ)) (job : JobValue) (order : Job) (all : Bool) (a b count : ℕ) (ordered : Bool) → IsPair order a b → IsTrue (is_told all count) → Wrote x y (PairText job order a b ordered) → Wrote x y (PairTold job order all a b count (count + 1))
pair_said x y job order all a b count ordered is t w = record {
  text = w.text;
  says = λ before h. subst (λ n. Told job order all a (suc b) n (before ++ w.text)) (sym (add-one count)) (said w.text ordered is t w.says h);
  appends = w.appends;
}

-- ---- rows

pub row_more : (x y z : Option (List ℕ)) (job : JobValue) (order : Job) (all : Bool) (a count b now n : ℕ) → Wrote x y (RowTold job order all a count b now) → Wrote y z (PairTold job order all a b now n) → Wrote x z (RowTold job order all a count (b + 1) n)
row_more x y z job order all a count b now n s t = record {
  text = s.text ++ t.text;
  says = λ before h. subst (λ k. Told job order all a k n (before ++ (s.text ++ t.text))) (sym (add-one b))
      (subst (Told job order all a (suc b) n) (append_assoc before s.text t.text) (t.says (before ++ s.text) (s.says before h)));
  appends = appends_more x y z s.text t.text s.appends t.appends;
}

pub rows_none : (x : Option (List ℕ)) (job : JobValue) (order : Job) (all : Bool) → Wrote x x (Told job order all 0 0 0)
rows_none x job order all = record { text = []; says = start; appends = appends_nothing x }

pub rows_more : (x y z : Option (List ℕ)) (job : JobValue) (order : Job) (all : Bool) (a count n : ℕ) → Wrote x y (Told job order all a 0 count) → Wrote y z (RowTold job order all a count (length order.packets) n) → Wrote x z (Told job order all (a + 1) 0 n)
rows_more x y z job order all a count n s t = record {
  text = s.text ++ t.text;
  says = subst (λ k. Told job order all k 0 n (s.text ++ t.text)) (sym (add-one a)) (row (t.says s.text s.says));
  appends = appends_more x y z s.text t.text s.appends t.appends;
}

-- ---- where memory ran out

-- nothing was told of
pub broken_at_once : (x y : Option (List ℕ)) (job : JobValue) (order : Job) → y ≡ x → Wrote x y (Broken job order)
broken_at_once x y job order e = subst (λ z. Wrote x z (Broken job order)) (sym e) (record { text = []; says = (true, 0, 0, 0, start); appends = appends_nothing x })

-- ---- the whole

pub all_told : (x y z : Option (List ℕ)) (job : JobValue) (order : Job) (all : Bool) (count : ℕ) → Wrote x y (Told job order all (length order.packets) 0 count) → Wrote y z (Is (closing_text all count)) → Wrote x z (AllText job order all)
all_told x y z job order all count s t =
    let w = both x y z (Told job order all (length order.packets) 0 count) (Is (closing_text all count)) s t in
    record { text = w.text; says = (count, w.says); appends = w.appends }

pub nothing_told : (job : JobValue) (order : Job) → Broken job order []
nothing_told job order = (true, 0, 0, 0, start)
