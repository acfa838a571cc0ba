use Rattle.std.proofs.Common.{◌≡◌, ◌+◌, ◌≤◌, ◌<◌, ℕ, List, length, sym, ◌∙◌, ap, subst, arith}
use Rattle.fut_types.specs.declared.Head.TheVariants as head
use Rattle.fut_types.specs.Types.{Made}
use Rattle.type_graph.specs.declared.Node.{Node}
use Rattle.type_graph.specs.Graph.{Each, Tables, numbers}
use Rattle.type_graph.specs.Claims.{Adds, Nowhere, types_of}
use Rattle.type_graph.proofs.Grown.{sound_inside}
use Rattle.type_rules.specs.declared.demand.Demand.{Demand}
use Rattle.type_rules.specs.Demands.{All_met, All_allow, Are_demands}
use Rattle.type_rules.proofs.Adding.{on_ok, adds_as, nowhere_as}
use Rattle.type_rules.specs.Own.{Beside}
use Rattle.type_rules.proofs.Outcomes.{both_ok, both_err}
use Rattle.type_rules.proofs.Beside.{claim_adds, claim_nowhere, freed_sound, freed_extends}
use Rattle.type_rules.specs.Records.{Has_parts, part_demands}
use Rattle.type_rules.proofs.Asking.{numbers_below, parts_within, each_lower, asked_local, asked_allow, asked_to, asked_from}
use Rattle.type_rules.proofs.parts.put_record.Goals as goal

-- the nodes and demands by other names
adds_named : (T : Tables) (n m id number : ℕ) (own own' : List ℕ) (ds ds' : List Demand) (n1 n2 : List Node) → n ≡ m → own ≡ own' → ds ≡ ds'
    → Adds T n (λ K a. (a id ≡ Made (head.Record number) (types_of a own)) × All_met T.shapes K a ds) (λ home. All_allow home ds) n1 n2
    → Adds T m (λ K a. (a id ≡ Made (head.Record number) (types_of a own')) × All_met T.shapes K a ds') (λ home. All_allow home ds') n1 n2
adds_named T n m id number own own' ds ds' n1 n2 e f g x = subst (λ k. Adds T k (λ K a. (a id ≡ Made (head.Record number) (types_of a own')) × All_met T.shapes K a ds') (λ home. All_allow home ds') n1 n2) e
    (subst (λ o. Adds T n (λ K a. (a id ≡ Made (head.Record number) (types_of a o)) × All_met T.shapes K a ds') (λ home. All_allow home ds') n1 n2) f
    (subst (λ d. Adds T n (λ K a. (a id ≡ Made (head.Record number) (types_of a own)) × All_met T.shapes K a d) (λ home. All_allow home d) n1 n2) g x))

nowhere_named : (T : Tables) (n m id number : ℕ) (own own' : List ℕ) (ds ds' : List Demand) (n1 : List Node) → n ≡ m → own ≡ own' → ds ≡ ds'
    → Nowhere T n (λ K a. (a id ≡ Made (head.Record number) (types_of a own)) × All_met T.shapes K a ds) n1
    → Nowhere T m (λ K a. (a id ≡ Made (head.Record number) (types_of a own')) × All_met T.shapes K a ds') n1
nowhere_named T n m id number own own' ds ds' n1 e f g x = subst (λ k. Nowhere T k (λ K a. (a id ≡ Made (head.Record number) (types_of a own')) × All_met T.shapes K a ds') n1) e
    (subst (λ o. Nowhere T n (λ K a. (a id ≡ Made (head.Record number) (types_of a o)) × All_met T.shapes K a ds') n1) f
    (subst (λ d. Nowhere T n (λ K a. (a id ≡ Made (head.Record number) (types_of a own)) × All_met T.shapes K a d) n1) g x))

pub put_parts-requires-clause-sound : goal.put_parts-requires-clause-sound
put_parts-requires-clause-sound c = freed_sound c.args.table.now (length c.args.row.now) c.args.nodes.now c.push_own.new.nodes c.args.entries.now c.requires.sound c.in-Ok-push_own.ensures.ok

pub put_parts-requires-clause-base : goal.put_parts-requires-clause-base
put_parts-requires-clause-base c = omega (arith, c.in-Ok-push_own.ensures.ok.long, c.len-first.ensures)

pub put_parts-requires-clause-id : goal.put_parts-requires-clause-id
put_parts-requires-clause-id c = omega (arith, c.requires.id, c.requires.base, c.len-first.ensures)

pub put_parts-requires-clause-own : goal.put_parts-requires-clause-own
put_parts-requires-clause-own c = subst (λ l. Each (λ p. p < c.len-first.result + length c.args.row.now) l) (sym (c.as_slice.ensures ∙ c.in-Ok.ensures.ok)) (numbers_below c.len-first.result (length c.args.row.now) (c.len-first.result + length c.args.row.now) (omega arith))

pub put_parts-requires-clause-within : goal.put_parts-requires-clause-within
put_parts-requires-clause-within c = subst (λ ds. Are_demands c.args.table.now (c.len-first.result + length c.args.row.now) ds) (sym (c.as_slice-2.ensures ∙ c.in-Ok-parts_list.ensures.ok))
    (parts_within c.args.table.now (c.len-first.result + length c.args.row.now) c.args.id c.args.row.now c.args.parts.now (omega (arith, c.requires.id, c.requires.base, c.len-first.ensures)) c.requires.row
    (each_lower c.args.base (c.len-first.result + length c.args.row.now) c.args.parts.now (omega (arith, c.requires.base, c.len-first.ensures)) c.requires.parts))

pub returns-clause-extends : goal.returns-clause-extends
returns-clause-extends c = on_ok c.put_parts.result (λ x. freed_extends c.args.table.now (length c.args.row.now) c.args.nodes.now c.push_own.new.nodes c.put_parts.new.nodes c.args.entries.now c.put_parts.new.entries c.in-Ok-push_own.ensures.ok x) c.put_parts.ensures.extends

pub returns-clause-ok : goal.returns-clause-ok
returns-clause-ok c = both_ok c.put_parts.result (λ x y T told. adds_as T c.args.base (Beside c.args.base (λ K a. (a c.args.id ≡ Made (head.Record c.args.number) (types_of a (numbers c.len-first.result (length c.args.row.now)))) × All_met T.shapes K a (part_demands c.args.id c.args.row.now c.args.parts.now))) (λ K a. Has_parts T.shapes c.args.number c.args.row.now (a c.args.id) (types_of a c.args.parts.now)) (λ home. All_allow home (part_demands c.args.id c.args.row.now c.args.parts.now)) (λ home. Unit {0}) c.args.nodes.now c.put_parts.new.nodes (asked_from c.args.base c.len-first.result c.args.id c.args.number c.args.row.now c.args.parts.now T.shapes (rw c.len-first.ensures c.requires.base) c.requires.id c.requires.parts c.requires.long) (asked_to c.args.base c.len-first.result c.args.id c.args.number c.args.row.now c.args.parts.now T.shapes (rw c.len-first.ensures c.requires.base) c.requires.id c.requires.parts c.requires.long) (λ home h. asked_allow c.args.base c.len-first.result c.args.id c.args.number c.args.row.now c.args.parts.now T.shapes (rw c.len-first.ensures c.requires.base) c.requires.id c.requires.parts c.requires.long home)
    (claim_adds T c.args.base (length c.args.row.now) c.args.nodes.now c.push_own.new.nodes (λ K a. (a c.args.id ≡ Made (head.Record c.args.number) (types_of a (numbers c.len-first.result (length c.args.row.now)))) × All_met T.shapes K a (part_demands c.args.id c.args.row.now c.args.parts.now)) (λ home. All_allow home (part_demands c.args.id c.args.row.now c.args.parts.now)) c.requires.base (sound_inside c.args.table.now c.args.nodes.now c.args.entries.now T c.requires.sound (x.told T told)) c.requires.sound.graph c.in-Ok-push_own.ensures.ok (λ K a b low high. asked_local c.args.base c.len-first.result c.args.id c.args.number c.args.row.now c.args.parts.now T.shapes (rw c.len-first.ensures c.requires.base) c.requires.id c.requires.parts c.requires.long K a b low (subst (λ n. (i : ℕ) → n ≤ i → a i ≡ b i) (sym c.len-first.ensures) high)) c.put_parts.new.nodes (adds_named T (c.len-first.result + length c.args.row.now) (length c.push_own.new.nodes) c.args.id c.args.number c.as_slice.result.now (numbers c.len-first.result (length c.args.row.now)) c.as_slice-2.result.now (part_demands c.args.id c.args.row.now c.args.parts.now) c.push_own.new.nodes c.put_parts.new.nodes
    (ap (λ n. n + length c.args.row.now) c.len-first.ensures ∙ sym c.in-Ok-push_own.ensures.ok.long) (c.as_slice.ensures ∙ c.in-Ok.ensures.ok) (c.as_slice-2.ensures ∙ c.in-Ok-parts_list.ensures.ok) (y T told)))) c.put_parts.ensures.extends c.put_parts.ensures.ok

pub returns-clause-err : goal.returns-clause-err
returns-clause-err c = both_err c.put_parts.result (λ before y T told. nowhere_as T c.args.base (Beside c.args.base (λ K a. (a c.args.id ≡ Made (head.Record c.args.number) (types_of a (numbers c.len-first.result (length c.args.row.now)))) × All_met T.shapes K a (part_demands c.args.id c.args.row.now c.args.parts.now))) (λ K a. Has_parts T.shapes c.args.number c.args.row.now (a c.args.id) (types_of a c.args.parts.now)) c.args.nodes.now (asked_from c.args.base c.len-first.result c.args.id c.args.number c.args.row.now c.args.parts.now T.shapes (rw c.len-first.ensures c.requires.base) c.requires.id c.requires.parts c.requires.long)
    (claim_nowhere T c.args.base (length c.args.row.now) c.args.nodes.now c.push_own.new.nodes (λ K a. (a c.args.id ≡ Made (head.Record c.args.number) (types_of a (numbers c.len-first.result (length c.args.row.now)))) × All_met T.shapes K a (part_demands c.args.id c.args.row.now c.args.parts.now)) (λ home. All_allow home (part_demands c.args.id c.args.row.now c.args.parts.now)) c.requires.base (sound_inside c.args.table.now c.args.nodes.now c.args.entries.now T c.requires.sound (before T told)) c.requires.sound.graph c.in-Ok-push_own.ensures.ok (λ K a b low high. asked_local c.args.base c.len-first.result c.args.id c.args.number c.args.row.now c.args.parts.now T.shapes (rw c.len-first.ensures c.requires.base) c.requires.id c.requires.parts c.requires.long K a b low (subst (λ n. (i : ℕ) → n ≤ i → a i ≡ b i) (sym c.len-first.ensures) high)) (nowhere_named T (c.len-first.result + length c.args.row.now) (length c.push_own.new.nodes) c.args.id c.args.number c.as_slice.result.now (numbers c.len-first.result (length c.args.row.now)) c.as_slice-2.result.now (part_demands c.args.id c.args.row.now c.args.parts.now) c.push_own.new.nodes
    (ap (λ n. n + length c.args.row.now) c.len-first.ensures ∙ sym c.in-Ok-push_own.ensures.ok.long) (c.as_slice.ensures ∙ c.in-Ok.ensures.ok) (c.as_slice-2.ensures ∙ c.in-Ok-parts_list.ensures.ok) (y T told)))) c.put_parts.ensures.before c.put_parts.ensures.err
