-- Numbers in a map of texts.
use Rattle.std.proofs.Common.{◌≡◌, Bool, true, false, cond, [], Option, None, Some, refl, ◌∙◌, ap, Bor}
use Rattle.std.specs.HashMap as hash
use Rattle.std.specs.HashMap.{HashMap}
use Rattle.std.specs.Str.{bytes_eq}
use Rattle.std.proofs.lemmas.Map.Text.{hash_map_updates_str}
use Rattle.fut_ast.specs.Sorts.{Text}
use Rattle.fut_scalar.specs.declared.place.BindId.{BindId}
use Rattle.elab_scopes.specs.declared.newest.Newest.{Newest}
use Rattle.elab_scopes.specs.Hiding.{flat, newest, Sets, Keeps}

flat_cond : (t : Bool) (v : Option BindId) (o : Option (Option BindId)) → flat (cond t (Some v) o) ≡ cond t v (flat o)
flat_cond true v o = refl
flat_cond false v o = refl

pub puts_found : {S : Type 0} (x : Text) (m n : HashMap (Bor Text) (Option BindId) S) (v : Option BindId)
    → hash.UpdatesBy (λ x y. bytes_eq x.now y.now) (λ k. bytes_eq x k.now) m n (Some v) → (y : Text)
    → flat (hash.get_by (λ k. bytes_eq y k.now) n) ≡ cond (bytes_eq x y) v (flat (hash.get_by (λ k. bytes_eq y k.now) m))
puts_found x m n v up y = ap flat (hash_map_updates_str x m n (Some v) up y) ∙ flat_cond (bytes_eq x y) v (hash.get_by (λ k. bytes_eq y k.now) m)

pub ruleset puts = (puts_found)

pub nothing_found : (t : Newest) → t.values.entries ≡ [] → t.types.entries ≡ [] → (is_type : Bool) (x : Text) → newest t is_type x ≡ None
unfolding newest
nothing_found t vs ts true x = rw ts refl
nothing_found t vs ts false x = rw vs refl

pub types_set : (s t : Newest) (x : Text) (n : Option BindId) → t.values ≡ s.values
    → ((y : Text) → flat (hash.get_by (λ k. bytes_eq y k.now) t.types) ≡ cond (bytes_eq x y) n (flat (hash.get_by (λ k. bytes_eq y k.now) s.types))) → Sets s true x n t
unfolding Sets newest
types_set s t x n same more = (more, λ y. ap (λ m. flat (hash.get_by (λ k. bytes_eq y k.now) m)) same)

pub values_set : (s t : Newest) (x : Text) (n : Option BindId) → t.types ≡ s.types
    → ((y : Text) → flat (hash.get_by (λ k. bytes_eq y k.now) t.values) ≡ cond (bytes_eq x y) n (flat (hash.get_by (λ k. bytes_eq y k.now) s.values))) → Sets s false x n t
unfolding Sets newest
values_set s t x n same more = (more, λ y. ap (λ m. flat (hash.get_by (λ k. bytes_eq y k.now) m)) same)

pub all_kept : (s t : Newest) → t.values.entries ≡ s.values.entries → t.types.entries ≡ s.types.entries → Keeps s t
unfolding Keeps newest
all_kept s t vs ts true y = rw ts refl
all_kept s t vs ts false y = rw vs refl

pub types_absent : (s : Newest) (x : Text) → hash.get_by (λ k. bytes_eq x k.now) s.types ≡ None → newest s true x ≡ None
unfolding newest
types_absent s x is = ap flat is

pub values_absent : (s : Newest) (x : Text) → hash.get_by (λ k. bytes_eq x k.now) s.values ≡ None → newest s false x ≡ None
unfolding newest
values_absent s x is = ap flat is

pub ruleset finds = (nothing_found, types_set, values_set, all_kept, types_absent, values_absent)
