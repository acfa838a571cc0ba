-- What a composition is made of, two at a time.
use Rattle.std.proofs.Common.{sym, ◌∙◌, subst, Result, Ok, Err}
use Rattle.std.specs.Borrow.{Bor}
use Rattle.fut_scalar.specs.declared.place.BindId.{BindId}
use Rattle.fut_flat.specs.declared.exp.Exp.{Exp as Flat}
use Rattle.elab_scopes.specs.declared.refusal.Stop.{Stop}
use Rattle.elab_nodes.specs.Built.{built2, first_of_two, second_of_two, no_memory2}
use Rattle.elab_nodes.proofs.Joined.{Paired}
use Rattle.elab_exps.specs.Heads.{Gathered, gathered, no_left, no_left_function, no_right, no_right_function, no_argument, not_gathered}

abbrev Named : Type 0
Named = BindId × Bor Flat

pub gathered_all : {l r x : Result BindId Stop} {f g : Result (Bor Flat) Stop} {lf rg : Result Named Stop} {rx : Result (Named × BindId) Stop} {p : Named × (Named × BindId)}
    → Paired lf rx (Ok p) → Paired l f lf → Paired rg x rx → Paired r g rg → Gathered l f r g x (Ok (record { left = p.0.0; left_function = p.0.1; right = p.1.0.0; right_function = p.1.0.1; argument = p.1.1 }))
gathered_all (built2 is) (built2 {a = a} {b = b} left) (built2 {b = c} both) (built2 {a = d} {b = e} right) =
    subst (λ (q : Named × (Named × BindId)). Gathered (Ok a) (Ok b) (Ok d) (Ok e) (Ok c) (Ok (record { left = q.0.0; left_function = q.0.1; right = q.1.0.0; right_function = q.1.0.1; argument = q.1.1 }))) (sym (is ∙ λ i. (left i, (both ∙ λ j. (right j, c)) i))) gathered

pub gathered_stop : {l r x : Result BindId Stop} {f g : Result (Bor Flat) Stop} {lf rg : Result Named Stop} {rx : Result (Named × BindId) Stop} {e : Stop}
    → Paired lf rx (Err e) → Paired l f lf → Paired rg x rx → Paired r g rg → Gathered l f r g x (Err e)
gathered_stop first_of_two first_of_two b c = no_left
gathered_stop first_of_two second_of_two b c = no_left_function
gathered_stop first_of_two no_memory2 b c = not_gathered
gathered_stop second_of_two (built2 a) first_of_two first_of_two = no_right
gathered_stop second_of_two (built2 a) first_of_two second_of_two = no_right_function
gathered_stop second_of_two (built2 a) first_of_two no_memory2 = not_gathered
gathered_stop second_of_two (built2 a) second_of_two (built2 c) = no_argument
gathered_stop second_of_two (built2 a) no_memory2 c = not_gathered
gathered_stop no_memory2 a b c = not_gathered
