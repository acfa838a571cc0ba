-- What later members of a module type see.
use Rattle.std.proofs.Common.{◌≡◌, ℕ, ◌+◌, ◌<◌, ◌≤◌, List, [], ◌∷◌, ◌++◌, map, length, drop, slice_index_or, Result, Ok, Err, IfOk, IfErr, refl, sym, ap, ◌∙◌, subst, arith}
use Rattle.std.proofs.Math.ListN.{drop_of_length-le}
use Rattle.std.proofs.lemmas.List.{append_assoc}
use Rattle.std.specs.Borrow.{Bor}
use Rattle.fut_ast.specs.Sorts.{Text}
use Rattle.fut_ast.specs.declared.module.ModType.{ModType as PlainModType, out-ModType}
use Rattle.fut_tree.specs.declared.module.ModType.TheInside.{Inside}
use Rattle.fut_tree.specs.ModTypes.{mtype_of}
use Rattle.elab_scopes.specs.Names.{Unbound}
use Rattle.elab_scopes.specs.Scopes.{Member, members, Contents}
use Rattle.elab_scopes.specs.Resolve.{after}
use Rattle.elab_scopes.specs.Declarations.{seen_later}
use Rattle.elab_scopes.specs.declared.meanings.Member.{Member as HeldMember}
use Rattle.elab_scopes.specs.declared.meanings.Member.TheVariants as held_member
use Rattle.elab_scopes.specs.declared.modules.Contents.{Contents as HeldContents}
use Rattle.elab_scopes.specs.declared.modules.Contents.TheVariants as held_contents
use Rattle.elab_scopes.specs.declared.refusal.Refusal.TheVariants as held
use Rattle.elab_scopes.specs.declared.refusal.Stop.{Stop}
use Rattle.elab_scopes.specs.declared.refusal.Stop.TheVariants as stop
use Rattle.elab_scopes.specs.Held.{member_of}
use Rattle.elab_scopes.specs.Modules.{contents_of}
use Rattle.module_state.specs.declared.state.Declaring.{Declaring}
use Rattle.module_state.specs.declared.state.Specified.{Specified}
use Rattle.module_state.specs.Standing.{Does, does, refuses, stops, alone, specified_of}
use Rattle.module_state.specs.Steps.{type_called_of}
use Rattle.module_members.specs.Steps.{include_step, more_specified}
use Rattle.module_members.proofs.Loops.{from_index}

one_seen : (m : HeldMember) (ms : List Member) → seen_later (member_of m ∷ ms) ≡ seen_later (alone m) ++ seen_later ms
one_seen (held_member.Value x r) ms = refl
one_seen (held_member.Type x r) ms = refl
one_seen (held_member.Module x r) ms = refl
one_seen (held_member.Signature x k) ms = refl

pub seen_start : (ms : List HeldMember) (older : List Member) → older ≡ seen_later (map member_of (drop (length ms) ms)) ++ older
seen_start ms older = ap (λ l. seen_later (map member_of l) ++ older) (sym (drop_of_length-le ms (omega arith)))

pub seen_more : (ms : List HeldMember) (left less : ℕ) (d : HeldMember) (all more older : List Member) → less + 1 ≡ left → left ≤ length ms → all ≡ seen_later (map member_of (drop left ms)) ++ older → more ≡ seen_later (alone (slice_index_or ms less d)) ++ all → more ≡ seen_later (map member_of (drop less ms)) ++ older
seen_more ms left less d all more older one le e is = is ∙ ap (λ l. seen_later (alone (slice_index_or ms less d)) ++ l) (e ∙ ap (λ n. seen_later (map member_of (drop n ms)) ++ older) (sym one))
    ∙ sym (append_assoc (seen_later (alone (slice_index_or ms less d))) (seen_later (map member_of (drop (less + 1) ms))) older) ∙ ap (λ l. l ++ older) (sym (one_seen (slice_index_or ms less d) (map member_of (drop (less + 1) ms))))
    ∙ ap (λ l. seen_later (map member_of l) ++ older) (sym (from_index ms less d (omega (arith, one, le))))

pub both_specified : (ms : List Member) (b a : Specified) → a.seen.now ≡ seen_later ms ++ b.seen.now → a.met.now ≡ ms ++ b.met.now → specified_of a ≡ more_specified ms (specified_of b)
both_specified ms b a e f = λ i. (e i, f i)

module _ (t : PlainModType) (b : List Member × List Member) (d : Declaring) (c : HeldContents) where
  pub members_included : (ms : Bor (List Member)) (r : Result Specified Stop) → c ≡ held_contents.Members ms → IfOk r (λ a. specified_of a ≡ more_specified ms.now b) → IfErr r (λ e. e ≡ stop.Memory) → Does specified_of (include_step t (contents_of c) b) d d r
  unfolding after
  members_included ms (Ok a) is e i = does (λ s st. record { state = s; is = ap (λ z. include_step t (contents_of z) b s) is ∙ (λ j. Ok (sym e j, s)); stands = st })
  members_included ms (Err e) is _ i = subst (λ z. Does specified_of (include_step t (contents_of c) b) d d (Err z)) (sym i) stops

  pub parametric_included : (k : ℕ) (v : Inside) (x : Bor Text) → c ≡ held_contents.Parametric k → mtype_of v ≡ t → x.now ≡ type_called_of t → Does specified_of (include_step t (contents_of c) b) d d (Err (stop.Refused (held.Unbound x v.place)))
  unfolding after
  parametric_included k v x is stands e = refuses (λ s st. ap (λ z. include_step t (contents_of z) b s) is ∙ (λ j. Err (Unbound (sym e j) ((out-ModType (sym stands j)).place))))
