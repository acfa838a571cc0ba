-- One claim after another.
use Rattle.std.proofs.Common.{ℕ, List}
use Rattle.fut_types.specs.Types.{Sub, Kinds}
use Rattle.type_graph.specs.declared.Node.{Node}
use Rattle.type_graph.specs.Graph.{Tables}
use Rattle.type_graph.specs.Claims.{Adds}
use Rattle.type_scopes.specs.Scopes.{Homes, Puts, NotPossible}

abbrev pub Says : Type 1
Says = Kinds → Sub → Type 0

module _ (T : Tables) (born : ℕ → ℕ) (base : ℕ) where
  pub puts_added : (P : Says) (H : Homes) (n0 n1 : List Node) → Adds T base P H n0 n1 → Puts T born base P H n0 n1
  puts_added P H n0 n1 x = record { forth = λ K a p h. x.forth K a p h; back = x.back; done = λ K a p. x.done K a p; keeps = x.keeps; state = x.state; backed = λ home h b. x.backed home born h b }

  pub puts_none : (P : Says) (H : Homes) (nodes : List Node) → ((K : Kinds) (a : Sub) → P K a) → Puts T born base P H nodes nodes
  puts_none P H nodes h = record { forth = λ K a p q. p; back = λ K a p. p; done = λ K a p. h K a; keeps = λ K a s. s; state = λ home s. s; backed = λ home g b. b }

  pub puts_then : (P Q R : Says) (G H I : Homes) (n0 n1 n2 : List Node) → Puts T born base P G n0 n1 → Puts T born base Q H n1 n2
      → ((K : Kinds) (a : Sub) → R K a → P K a × Q K a) → ((K : Kinds) (a : Sub) → P K a → Q K a → R K a) → ((home : ℕ → ℕ) → I home → G home × H home) → Puts T born base R I n0 n2
  puts_then P Q R G H I n0 n1 n2 x y split join homes = record {
    forth = λ K a p r. let s = split K a r in y.forth K a (x.forth K a p s.0) s.1;
    back = λ K a p. x.back K a (y.back K a p);
    done = λ K a p. join K a (x.done K a (y.back K a p)) (y.done K a p);
    keeps = λ K a s. x.keeps K a (y.keeps K a s);
    state = λ home s. y.state home (x.state home s);
    backed = λ home i b. let g = homes home i in y.backed home g.1 (x.backed home g.0 b);
  }

  pub puts_as : (P R : Says) (H I : Homes) (n0 n1 : List Node) → ((K : Kinds) (a : Sub) → R K a → P K a) → ((K : Kinds) (a : Sub) → P K a → R K a) → ((home : ℕ → ℕ) → I home → H home) → Puts T born base P H n0 n1 → Puts T born base R I n0 n1
  puts_as P R H I n0 n1 split join homes x = record {
    forth = λ K a p r. x.forth K a p (split K a r);
    back = x.back;
    done = λ K a p. join K a (x.done K a p);
    keeps = x.keeps;
    state = x.state;
    backed = λ home i b. x.backed home (homes home i) b;
  }

  pub not_as : (P R : Says) (n0 : List Node) → ((K : Kinds) (a : Sub) → R K a → P K a) → NotPossible T base P n0 → NotPossible T base R n0
  not_as P R n0 split x pl K a p r = x pl K a p (split K a r)

  pub not_then : (P Q R : Says) (H : Homes) (n0 n1 : List Node) → Puts T born base P H n0 n1 → NotPossible T base Q n1 → ((K : Kinds) (a : Sub) → R K a → P K a × Q K a) → NotPossible T base R n0
  not_then P Q R H n0 n1 x y split pl K a p r = let s = split K a r in y pl K a (x.forth K a p s.0) s.1
