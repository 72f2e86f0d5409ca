use Rattle.std.proofs.Common.{◌≡◌, ◌⊎◌, ◌++◌, ◌∷◌, [], ℕ, List, ap, sym, subst, length, ◌∙◌}
use Rattle.std.specs.Prelude.{map}
use Rattle.std.proofs.lemmas.List.{length-map}
use Rattle.hq_cert.specs.View.{line_of}
use Rattle.hq_text.specs.Lines.{lines_of}
use Rattle.hq_job.specs.Plan.{plan}
use Rattle.hq_certread.specs.Ahead.{lines_ahead, pairs_ahead}
use Rattle.hq_certread.specs.SoFar.{HasFault}
use Rattle.hq_certcheck.specs.Concluded.{bare}
use Rattle.hq_certcheck.specs.Listed.{BadPairIs}
use Rattle.hq_certcheck.specs.Seen.{HasSeen}
use Rattle.hq_judging.specs.Checking.{HasCheckedBut, StaysSaid, block_of}
use Rattle.hq_judging.specs.Chunks.{IsLookedAt}
use Rattle.hq_judging.specs.declared.checking.Checking.{Checking}
use Rattle.hq_judging.specs.declared.chunk.Chunk.{Chunk}
use Rattle.hq_judging.proofs.InChunks.{checked_as, hold_none, in_two, in_two_and_more, no_fault, none_told, on_err, on_ok, chunk_passed, some_told, stays_both}
use Rattle.hq_judging.proofs.checking.Checking.take_chunk.Goals as goal

-- What was read ahead was taken in.
record Mid (c : goal.After-take_text) (at from : Checking) (chunks : List Chunk) (lines : List (List ℕ)) : Type 0 where
  more : List (List ℕ)
  whole : lines_of c.args.text.now ≡ more ++ lines_of c.split_at.result.1.now
  checked : HasCheckedBut from (chunks ++ c.args.chunk.now ∷ []) (lines ++ more) (record { job = c.args.self.now.job; progress = c.pass.new.self; seen = c.put.new.self })
  stays : StaysSaid at (record { job = c.args.self.now.job; progress = c.pass.new.self; seen = c.put.new.self })

mid : (c : goal.After-take_text) (at from : Checking) (chunks : List Chunk) (lines : List (List ℕ)) → IsLookedAt (plan from.job) at c.args.text.now c.args.chunk.now → StaysSaid at c.args.self.now → HasCheckedBut from chunks lines c.args.self.now → Mid c at from chunks lines
mid c at from chunks lines looked still h =
    let chunk = c.args.chunk.now in
    let text = c.args.text.now in
    let old = c.args.self.now in
    let job = plan old.job in
    let la = lines_ahead chunk.ahead in
    let pa = pairs_ahead chunk.ahead in
    let p = some_told c.in_ok-at.field-0 c.in-Some.at _ _ c.in-Some.is c.in_ok-at.ensures.passed text lines h.front h.gone looked.ahead h.taken h.no_lines h.no_pairs in
    let concluded = no_fault c.conclude.result _ (sym c.is_err.ensures.value ∙ c.if-is_err.false) c.conclude.ensures in
    let put = no_fault c.put.result _ (sym c.is_err-in-Some.ensures.value ∙ c.if-is_err-2.false) c.put.ensures in
    let left = map block_of chunks in
    let passed =
    chunk_passed at from chunks lines old c.pass.new.self c.conclude.new.self c.put.new.self text chunk c.in-Some.at (length c.lines.result.now) looked still h p
    (sym (length-map c.lines.result.now line_of) ∙ ap length c.lines.ensures)
    (λ pairs none seen.
    subst (λ ls. HasSeen job (h.front ++ ls) pairs (left ++ record { from = length h.front; count = length c.lines.result.now } ∷ []) c.conclude.new.self) c.lines.ensures
    (concluded job h.front pairs left (subst (λ ls. (pairs ≡ []) ⊎ (ls ≡ [])) (sym c.lines.ensures) none) seen))
    (λ ls blocks seen bad.
    subst (λ ps. HasSeen job ls (h.gone ++ ps) blocks c.put.new.self) c.pairs-pairs.ensures
    (put job ls h.gone blocks seen (subst (λ ps. BadPairIs job (map bare c.conclude.new.self.lines) ps chunk.bad_pair) (sym c.pairs-pairs.ensures) bad))) in
    record {
      more = p.more;
      whole = p.whole ∙ ap (λ r. p.more ++ lines_of r) (sym c.split_at.ensures.back);
      checked = passed.0;
      stays = stays_both at old (record { job = old.job; progress = c.pass.new.self; seen = c.put.new.self }) still passed.1;
    }

pub returns-else-is_err-2-clause-took : goal.returns-else-is_err-2-clause-took
returns-else-is_err-2-clause-took c = on_ok c.take_text.result c.take_text.ensures.took (λ took at from chunks lines looked still h.
    let m = mid c at from chunks lines looked still h in
    let t = took from (chunks ++ c.args.chunk.now ∷ []) (lines ++ m.more) m.checked in (
      subst (λ (ls : List (List ℕ)). HasCheckedBut from (chunks ++ c.args.chunk.now ∷ []) ls c.take_text.new.self) (in_two lines m.more (lines_of c.split_at.result.1.now) (lines_of c.args.text.now) m.whole) t.0,
      stays_both at (record { job = c.args.self.now.job; progress = c.pass.new.self; seen = c.put.new.self }) c.take_text.new.self m.stays t.1,
    ))

pub returns-else-is_err-2-clause-fault : goal.returns-else-is_err-2-clause-fault
returns-else-is_err-2-clause-fault c = on_err c.take_text.result c.take_text.ensures.fault (λ f fault at from chunks lines more looked still h.
    let m = mid c at from chunks lines looked still h in
    subst (λ (ls : List (List ℕ)). HasFault ls f) (in_two_and_more lines m.more (lines_of c.split_at.result.1.now) (lines_of c.args.text.now) more m.whole) (fault from (chunks ++ c.args.chunk.now ∷ []) (lines ++ m.more) more m.checked))

pub returns-then-is_err-clause-fault : goal.returns-then-is_err-clause-fault
returns-then-is_err-clause-fault c at from chunks lines more looked still h = c.no_memory.ensures (lines ++ (lines_of c.args.text.now ++ more))

pub returns-then-is_err-2-clause-fault : goal.returns-then-is_err-2-clause-fault
returns-then-is_err-2-clause-fault c at from chunks lines more looked still h = c.no_memory-then-is_err-2.ensures (lines ++ (lines_of c.args.text.now ++ more))

pub returns-in-None-clause-took : goal.returns-in-None-clause-took
returns-in-None-clause-took c = on_ok c.take_text-in-None.result c.take_text-in-None.ensures.took (λ took at from chunks lines looked still h.
    let old = c.args.self.now in
    let same = none_told c.in_ok-at.field-0 _ _ c.in-None.is c.in_ok-at.ensures.passed in
    let chunk : Chunk = record { len = c.args.chunk.now.len; ahead = c.clear.new.self; bad_pair = c.args.chunk.now.bad_pair; bad_line = c.args.chunk.now.bad_line } in
    let t = took from (chunks ++ chunk ∷ []) lines (checked_as from (chunks ++ chunk ∷ []) lines old c.pass.new.self same (hold_none from chunks lines old chunk (ap (map line_of) c.clear.ensures.lines) h)) in (
      t.0,
      λ past. let s = still past in let x = t.1 (subst (λ q. Rattle.hq_certread.specs.SoFar.IsClosed q) (sym same) s.0) in (x.0, x.1 ∙ s.1),
    ))

pub returns-in-None-clause-fault : goal.returns-in-None-clause-fault
returns-in-None-clause-fault c = on_err c.take_text-in-None.result c.take_text-in-None.ensures.fault (λ f fault at from chunks lines more looked still h.
    fault from chunks lines more (checked_as from chunks lines c.args.self.now c.pass.new.self (none_told c.in_ok-at.field-0 _ _ c.in-None.is c.in_ok-at.ensures.passed) h))
