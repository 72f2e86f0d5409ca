-- What an audit finds of an ordered job.
use Rattle.std.specs.Prelude.{◌≡◌, ℕ, Bool, List, [], Option, None, Some, slice_get}
use Rattle.std.specs.Global.{Vec}
use Rattle.hq_model.specs.Job.{Job}
use Rattle.hq_model.specs.Order.{OrderList}
use Rattle.hq_model.specs.Certificate as model
use Rattle.hq_derive.specs.declared.lines.Lines.{Lines}
use Rattle.hq_derive.specs.Gathered.{lines_of, AreSound}
use Rattle.hq_derive.specs.Needed.{HasLine}
use Rattle.hq_audit.specs.declared.audited.Audited.{Audited}
use Rattle.hq_audit.specs.declared.draft.Draft.{Draft}
use Rattle.hq_audit.specs.declared.drafting.Drafts.{Drafts}
use Rattle.hq_audit.specs.declared.packed.Packed.{Packed}
use Rattle.hq_audit.specs.Drafted.{AllDrafts, drafts_of, seen, listed, any_chained}
use Rattle.hq_audit.specs.Paired.{AllPaired, IsPairOf, IsPlain}

-- the order list
abbrev pub order_in : Audited → List ℕ
order_in a = a.order.items

-- the lines
abbrev pub lines_in : Audited → List model.Line
lines_in a = lines_of a.lines

-- the lists of drafts
abbrev pub lists_in : Audited → List (Vec Packed)
lists_in a = a.lists.items

-- all drafts
abbrev pub drafts_in : Audited → List Draft
drafts_in a = listed (lists_in a)

-- those of a list that may be there
abbrev pub if_there : Option (Vec Packed) → List Draft
if_there None = []
if_there (Some list) = seen list

-- those of list i
abbrev pub list_in : Audited → ℕ → List Draft
list_in a i = if_there (slice_get (lists_in a) i)

-- whether one is chained
abbrev pub chained_in : Audited → Bool
chained_in a = a.chained

-- It has these lines, these drafts and this order.
pub record IsMadeOf (l : Lines) (d : Drafts) (o : List ℕ) (a : Audited) : Type 0 where
  pub order : order_in a ≡ o
  pub lines : a.lines ≡ l
  pub drafts : drafts_in a ≡ drafts_of d
  pub chained : chained_in a ≡ d.chained

-- Its order is an order list, each line follows from lines of lower number, each draft is right and what it rests on
-- are lines that are there, each pair that conflicts has its drafts in one direction, and it is told whether a draft
-- is chained.
pub record IsAudited (job : Job) (a : Audited) : Type 0 where
  pub order : OrderList job (order_in a)
  pub sound : AreSound job a.lines
  pub each : AllDrafts job (HasLine (lines_in a)) (drafts_in a)
  pub paired : AllPaired job (drafts_in a)
  pub chained : chained_in a ≡ any_chained (drafts_in a)

-- This is the pair line of draft k of list i, without a fence that goes on from another.
pub record IsPairAt (job : Job) (a : Audited) (i k : ℕ) (pair : model.Pair) : Type 0 where
  pub is : (draft : Draft) → slice_get (list_in a i) k ≡ Some draft → IsPairOf job (lines_in a) draft pair
  pub plain : IsPlain pair.fences
