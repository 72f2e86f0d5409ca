use Rattle.std.proofs.Common.{◌≡◌, [], ◌∷◌, ◌++◌, ap, sym, ◌∙◌, append_assoc, ◌||◌}
use Rattle.hq_audit.specs.declared.draft.Draft.{Draft}
use Rattle.hq_audit.specs.declared.drafting.Drafts.{Drafts}
use Rattle.hq_audit.specs.Drafted.{seen, listed, drafts_of}
use Rattle.hq_audit.proofs.Packing.{small_draft}
use Rattle.hq_audit.proofs.Pairing.{pushed_goes, pushed_has}
use Rattle.hq_audit.proofs.Listing.{seen_push}
use Rattle.hq_audit.proofs.drafting.Drafts.push.Goals as goal

pub new-requires : goal.new-requires
new-requires c = small_draft c.args.before.now (record { p = c.args.p; r = c.args.r; means = c.args.means }) c.requires.are.room.few c.requires.p_is c.requires.r_is c.requires.order

pub returns-clause-goes : goal.returns-clause-goes
returns-clause-goes c =
    let old = c.args.self.now in
    let new : Drafts = record { full = old.full; last = c.push.new.self; needs = c.need_means.new.needs; chained = old.chained || c.is_chained.result } in
    let draft : Draft = record { p = c.args.p; r = c.args.r; means = c.args.means } in
    let one = seen_push old.last c.push.new.self c.new.result draft c.in_ok-push.ensures.items c.new.ensures in
    let more : drafts_of new ≡ drafts_of old ++ draft ∷ [] = ap (λ ds. listed old.full.items ++ ds) one ∙ sym (append_assoc (listed old.full.items) (seen old.last) (draft ∷ [])) in
    pushed_goes c.args.before.now old new draft c.requires.are c.need_means.ensures.widens
    (record { p_is = c.requires.p_is; r_is = c.requires.r_is; order = c.requires.order; known = c.need_means.ensures.needed }) more (ap (λ b. old.chained || b) c.is_chained.ensures)

pub returns-clause-has : goal.returns-clause-has
returns-clause-has c =
    let old = c.args.self.now in
    let draft : Draft = record { p = c.args.p; r = c.args.r; means = c.args.means } in
    let one = seen_push old.last c.push.new.self c.new.result draft c.in_ok-push.ensures.items c.new.ensures in
    pushed_has (drafts_of old) (listed old.full.items ++ seen c.push.new.self) draft (ap (λ ds. listed old.full.items ++ ds) one ∙ sym (append_assoc (listed old.full.items) (seen old.last) (draft ∷ [])))
