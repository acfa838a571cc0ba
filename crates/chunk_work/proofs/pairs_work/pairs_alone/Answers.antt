use Rattle.std.proofs.Common.{rules, ◌≡◌, ◌∙◌, ◌++◌, [], ◌∷◌, refl, sym, ap, max, suc, arith}
use Rattle.chunk_work.specs.declared.outcome.Done.{Done}
use Rattle.chunk_work.specs.Puts.{PutOf}
use Rattle.chunk_work.proofs.Putting.{put_more}
use Rattle.chunk_work.specs.Runs.{top, chunk_of}
use Rattle.std.proofs.lemmas.List.{map-append}
use Rattle.chunk_work.proofs.Chunks.{top_push, top_le}
use Rattle.chunk_work.proofs.pairs_work.pairs_alone.Goals as goal

pub loop-c-smaller : goal.loop-c-smaller
loop-c-smaller g c =
    let s = c.in-Some.ensures.some in
    let was = c.loop-c.seat.numbers in
    let n = c.in-Some.c in
    let e : top c.next.new.seat.numbers ≡ max (top was) (suc n) = ap top s.1 ∙ top_push was n in
    let b = top_le was n s.2 in
    let lt = s.0 in
    omega arith

pub loop-c-preserved : goal.loop-c-preserved
loop-c-preserved g c =
    let s = c.in-Some.ensures.some in
    let d : Done _ = record { chunk = c.in-Some.c; outcome = c.put-kept.result } in
    let put : PutOf (g.T.Task.ran c.args.task.now) g.O.Puts.keeps (g.O.Puts.pairs_of c.args.places) c.in-Some.c c.put-kept.result (g.O.Puts.pairs_of c.args.places c.in_ok-whole.whole) = record { outcome = c.in_ok-whole.whole; ran_it = c.in_ok-whole.ensures; kept_it = c.put-kept.ensures.kept; pairs_are = refl } in
    let items : c.push.new.self.items ≡ c.loop-c.dones.items ++ d ∷ [] = search rules in
    record {
      own = search rules;
      parts = search rules;
      own_mine = search rules;
      mine_parts = search rules;
      numbers = rw items (s.1 ∙ ap (λ l. l ++ c.in-Some.c ∷ []) c.loop-c.invariant.numbers ∙ sym (map-append chunk_of c.loop-c.dones.items (d ∷ [])));
      put = rw items (put_more (g.T.Task.ran c.args.task.now) g.O.Puts.keeps (g.O.Puts.pairs_of c.args.places) c.args.draw.now.chunks c.loop-c.dones.items (g.P.SharedTable.pairs c.loop-c.mine) (g.P.SharedTable.pairs c.put-kept.new.seat) (g.O.Puts.pairs_of c.args.places c.in_ok-whole.whole) d c.put-kept.ensures.pairs s.0 put c.loop-c.invariant.put);
    }
