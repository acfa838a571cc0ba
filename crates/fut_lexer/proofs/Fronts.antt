-- What is read at the front of a text is what stands there, and it is bad where nothing does.
use Rattle.std.proofs.Common.{◌≡◌, ℕ, Bool, List, [], refl, sym, subst, ◌∙◌}
use Rattle.fut_token.specs.declared.token.TokenKind.{TokenKind}
use Rattle.fut_lexer.specs.declared.front.Front.{Front}
use Rattle.fut_lexer.specs.declared.front.Front.TheVariants as front
use Rattle.fut_lexer.specs.Private.FrontReading.{front_at}
use Rattle.fut_lexer.specs.Rules as rules
use Rattle.fut_lexer.specs.Rules.{Stands}
use Rattle.fut_lexer.proofs.FrontsSound.{Right, good, bad, front_right}
use Rattle.fut_lexer.proofs.FrontsComplete.{stands_is}

pub same_front : {joined : Bool} {text : List ℕ} {f g : Front} → Stands joined text f → Stands joined text g → f ≡ g
same_front {joined} {text} {f} {g} s t = sym (stands_is joined text f s) ∙ stands_is joined text g t

right_is : {joined : Bool} {text : List ℕ} {f g : Front} → Right joined text f → f ≡ g → (g ≡ front.Bad → ⊥) → Stands joined text g
right_is {joined} {text} (good s) e n = subst (Stands joined text) e s
right_is bad e n = absurd (n (sym e))

module _ (joined : Bool) (text : List ℕ) where
  pub a_gap : (n : ℕ) → front_at joined text ≡ front.Gap n → Stands joined text (front.Gap n)
  a_gap n e = right_is (front_right joined text) e (λ b. cc)

  pub an_attribute : (n : ℕ) → front_at joined text ≡ front.Attribute n → Stands joined text (front.Attribute n)
  an_attribute n e = right_is (front_right joined text) e (λ b. cc)

  pub a_token : (k : TokenKind) (n : ℕ) → front_at joined text ≡ front.Token k n → Stands joined text (front.Token k n)
  a_token k n e = right_is (front_right joined text) e (λ b. cc)

  pub a_float : front_at joined text ≡ front.Float → Stands joined text front.Float
  a_float e = right_is (front_right joined text) e (λ b. cc)

never_bad : {joined : Bool} {text : List ℕ} {f : Front} → Stands joined text f → f ≡ front.Bad → ⊥
never_bad (rules.blanks e r) b = cc
never_bad (rules.comment r) b = cc
never_bad (rules.attribute e) b = cc
never_bad (rules.name m) b = cc
never_bad (rules.keyword_or_wildcard w e) b = cc
never_bad rules.character b = cc
never_bad (rules.variable e m) b = cc
never_bad (rules.lifted e m) b = cc
never_bad (rules.size_lifted e m) b = cc
never_bad (rules.constructed m) b = cc
never_bad (rules.text r e) b = cc
never_bad (rules.field j e r) b = cc
never_bad (rules.integer d g v w) b = cc
never_bad (rules.suffixed d g v w e) b = cc
never_bad (rules.float d g) b = cc
never_bad (rules.symbol l e h) b = cc

pub no_rule : (joined : Bool) (text : List ℕ) → front_at joined text ≡ front.Bad → (f : Front) → Stands joined text f → ⊥
no_rule joined text e f s = never_bad s (sym (stands_is joined text f s) ∙ e)

-- nothing stands at the end
pub none_at_end : {joined : Bool} {f : Front} → Stands joined [] f → ⊥
unfolding front_at
none_at_end {joined} {f} s = no_rule joined [] refl f s
