use Rattle.std.proofs.Common.{rules, ◌≡◌, ap, ◌∙◌, nat_eq, true}
use Rattle.std.specs.Prelude.{◌||◌}
use Rattle.fut_value.specs.Data.{same_sizes}
use Rattle.array_data.specs.Held.{built_rows, held, shape_held}
use Rattle.array_primitives.proofs.Joining.{all_within, concat_done}
use Rattle.array_primitives.proofs.joins.concat.Goals as goal

pub push_part-requires-2 : goal.push_part-requires-2
push_part-requires-2 c = all_within (held c.args.second.now) c.in_ok-m.m c.in_ok-m.ensures

pub returns : goal.returns
returns c =
    let fit : c.do_fit.result ≡ true = search rules in
    concat_done c.args.at (held c.args.first.now) (held c.args.second.now) c.in_ok-n.n c.in_ok-n.ensures c.in_ok-m.m c.in_ok-m.ensures
    (shape_held c.in_ok-left.left) (shape_held c.in_ok-right.right) c.in_ok-left.ensures c.in_ok-right.ensures c.do_fit.result
    (c.do_fit.ensures ∙ ap (λ z. nat_eq c.in_ok-n.n 0 || (nat_eq c.in_ok-m.m 0 || same_sizes (shape_held z) (shape_held c.get-2.result.now))) c.get.ensures
    ∙ ap (λ z. nat_eq c.in_ok-n.n 0 || (nat_eq c.in_ok-m.m 0 || same_sizes (shape_held c.in_ok-left.left) (shape_held z))) c.get-2.ensures)
    (shape_held c.in_ok-form.form) (built_rows c.new-built.result) _ _ _ fit c.in_ok-form.ensures c.new-built.ensures c.in_ok-push_part.ensures c.in_ok-push_part-2.ensures c.array_of_form.ensures.value
