-- What is said of a definition under one numbering is said of it under the other. Where it is to have a typing there for other
-- types of its parameters, types are chosen for these here that stand nowhere, and are read there as the others.
use Rattle.std.proofs.Common.{◌≡◌, ℕ, ◌+◌, ◌≤◌, ◌<◌, refl, sym, ◌∙◌, ap, arith, Bool, true, List, [], ◌∷◌}
use mathlib.Core.Logic.{inl, inr}
use Rattle.fut_scalar.specs.declared.place.BindId.{BindId}
use Rattle.fut_flat.specs.Terms.{Parameter, Size_parameter, Type_parameter}
use Rattle.fut_types.specs.declared.Kind.{Kind}
use Rattle.fut_types.specs.Types.{Sub, Kinds}
use Rattle.fut_typing.specs.Names.{Names}
use Rattle.fut_typing.specs.Free.{is_within}
use Rattle.fut_typing.specs.Declared.{Is_parameter}
use Rattle.fut_typing.specs.Generalised.{parameter_kind, Suits, own_types, Scheme, Variant, Reused, Generalised}
use Rattle.fut_typing.proofs.Ranges.{within_yes}
use Rattle.fut_typing.proofs.Cong.{mixed, mixed_free, mixed_outside, Depends, within_no}
use Rattle.fut_typing.proofs.Readings.{Reading, Suited, Extends, extends_self, limit, read_same}
unfoldable use Rattle.fut_typing.proofs.Readings.{read}
use Rattle.fut_typing.proofs.Instances.{limit_below, below_limit, parameter_limit, chosen_limit, parameter_below, chosen_below, own_rigid, new_suit, raised, raised_suited, raised_extends, new_read, Good, good_more, Chosen}
unfoldable use Rattle.fut_typing.proofs.Instances.{new_types}
use Rattle.typing_laws.proofs.Moved.{Turn, sent, sent_types, Faithful}
unfoldable use Rattle.typing_laws.proofs.Moved.{moved}
use Rattle.typing_laws.proofs.Follows.{Uses_follow, sent_kind}

suits_sent : (M N : Names) (turn : Turn) → Faithful M N turn → (places : Kind) (K K' : Kinds) (I : Reading) → Suited K K' I → (c : Sub) (ps : List (Parameter BindId)) → Suits places K c ps → Suits places K' (sent_types turn I c) ps
suits_sent M N turn faithful places K K' I suited c [] h = h
suits_sent M N turn faithful places K K' I suited c (Size_parameter b ∷ ps) h = suits_sent M N turn faithful places K K' I suited c ps h
suits_sent M N turn faithful places K K' I suited c (Type_parameter b lifted ∷ ps) h = (sent_kind M N turn faithful places K K' I suited (parameter_kind places lifted) (c b.0) h.0, suits_sent M N turn faithful places K K' I suited c ps h.1)

-- D holds of the parameters that are left, and of numbers below F0 alone
module _ (M N : Names) (turn : Turn) (faithful : Faithful M N turn) (places : Kind) (K K' : Kinds) (D : ℕ → Type 0) (F0 : ℕ) (low : (n : ℕ) → D n → n < F0) where
  -- the types of all numbers, where records stand otherwise
  abbrev pub all_turned : Sub → Sub
  all_turned c n = moved turn (c n)

  chosen_sent : (ps : List (Parameter BindId)) (c : Sub) (J : Reading) (G : ℕ) → chosen_limit (all_turned c) ps ≤ G → Chosen places K K' D F0 low ps (all_turned c) (sent_types turn J c) J G
  chosen_sent ps c J G le n i L e = let z : limit (moved turn (c n)) ≤ chosen_limit (all_turned c) ps = chosen_below (all_turned c) ps n i in read_same G J L e (moved turn (c n)) (omega arith)

  pub chosen_own : (ps : List (Parameter BindId)) (I : Reading) (F : ℕ) → Good places K K' D F0 low I F → ((n : ℕ) → Is_parameter ps n → D n) → Chosen places K K' D F0 low ps (all_turned (own_types places ps)) (own_types places ps) I F
  unfolding read moved
  chosen_own ps I F g into n i L e = let w = own_rigid places ps n i in let lt : n < F0 = low n (into n i) in let over : F0 ≤ F = g.over in
      ap (sent turn L) w.1 ∙ e.own n w.0 (omega arith) ∙ g.plain n w.0 (into n i) ∙ sym w.1

  -- what is said of a definition under one numbering, and under the other
  module _ (I : Reading) (F : ℕ) (good : Good places K K' D F0 low I F) (ps : List (Parameter BindId)) (first many : ℕ) (free : ℕ → Bool) (typed typed' : Sub → Kinds → Sub → Type 0)
      (dep : Depends (λ n. n < first) (record { parameters = ps; first = first; many = many; free = free; typed = typed' }))
      (move : (c c' : Sub) (J : Reading) (G : ℕ) → Good places K K' D F0 low J G → F ≤ G → Extends F I J → Chosen places K K' D F0 low ps (all_turned c) c' J G → (x : Sub) → typed c K x → typed' c' K' (sent_types turn J x)) where
    abbrev pub s : Scheme
    s = record { parameters = ps; first = first; many = many; free = free; typed = typed }

    abbrev pub s' : Scheme
    s' = record { parameters = ps; first = first; many = many; free = free; typed = typed' }

    pub reused_follows : (at : ℕ) → Uses_follow turn K K' I F (Reused places s at) (Reused places s' at)
    reused_follows at J suited e x t u = let c = u.0 in let v = u.2.0 in let G : ℕ = F + chosen_limit (all_turned c) ps in (
      sent_types turn J c,
      suits_sent M N turn faithful places K K' J suited c ps u.1,
      (
        record {
          other = sent_types turn J v.other;
          outside = λ n out. ap (sent turn J) (v.outside n out);
          kept = λ n p q f. ap (sent turn J) (v.kept n p q f);
          typed = move c (sent_types turn J c) J G (good_more places K K' D F0 low I J F G good suited e (omega arith)) (omega arith) e (chosen_sent ps c J G (omega arith)) v.other v.typed;
        },
        ap (sent turn J) u.2.1,
      ),
    )

    -- the new types stay, and are read as those that are chosen
    new_sent : (from G : ℕ) (c : Sub) (L : Reading) (n : ℕ) → from + n < G → Extends G (raised places ps from I c) L → sent turn L (new_types places ps from I c n) ≡ c n
    unfolding new_types moved
    new_sent from G c L n lt e = new_read places ps from I c G L n lt e

    pub generalised_follows : ((n : ℕ) → Is_parameter ps n → D n) → (x : Sub) → Generalised places s K x → Generalised places s' K' (sent_types turn I x)
    generalised_follows into x g = (move (own_types places ps) (own_types places ps) I F good (omega arith) (extends_self F I) (chosen_own ps I F good into) x g.0, λ c suits. variant c suits)
      where
        variant : (c : Sub) → Suits places K' c ps → Variant s' c K' (sent_types turn I x)
        variant c suits =
            let from : ℕ = F + limit_below (all_turned x) (first + many) in
            let G : ℕ = from + parameter_limit ps in
            let J : Reading = raised places ps from I c in
            let suited : Suited K K' J = raised_suited places ps from I c K K' good.suited suits in
            let e : Extends F I J = raised_extends places ps from I c F (omega arith) in
            let high : Extends from I J = raised_extends places ps from I c from (omega arith) in
            let v : Variant s (new_types places ps from I c) K x = g.1 (new_types places ps from I c) (new_suit places ps from I c K) in
            let old : (n : ℕ) → n < first + many → sent turn J (x n) ≡ sent turn I (x n) = λ n lt. (let z : limit (moved turn (x n)) ≤ limit_below (all_turned x) (first + many) = below_limit (all_turned x) (first + many) n lt in read_same from I J high (moved turn (x n)) (omega arith)) in
            let inside : ℕ → Bool = is_within first many in record {
              other = mixed inside (λ n. true) (sent_types turn J v.other) (sent_types turn I x);
              outside = λ n out. mixed_outside inside (λ n. true) (sent_types turn J v.other) (sent_types turn I x) n (within_no first many n out);
              kept = λ n p q f. mixed_free inside (λ n. true) (sent_types turn J v.other) (sent_types turn I x) n (within_yes first many n p q) refl ∙ ap (sent turn J) (v.kept n p q f) ∙ old n q;
              typed = dep c K' (sent_types turn J v.other) (mixed inside (λ n. true) (sent_types turn J v.other) (sent_types turn I x))
                  (λ n. elim [
                    | inl lt ↦ ap (sent turn J) (v.outside n (inl lt)) ∙ old n (omega arith) ∙ sym (mixed_outside inside (λ n. true) (sent_types turn J v.other) (sent_types turn I x) n (within_no first many n (inl lt)))
                    | inr i ↦ sym (mixed_free inside (λ n. true) (sent_types turn J v.other) (sent_types turn I x) n (within_yes first many n i.0 i.1) refl)
                  ])
                  (move (new_types places ps from I c) c J G (good_more places K K' D F0 low I J F G good suited e (omega arith)) (omega arith) e
                  (λ n i L f. let z : n < parameter_limit ps = parameter_below ps n i in new_sent from G c L n (omega arith) f) v.other v.typed);
            }
