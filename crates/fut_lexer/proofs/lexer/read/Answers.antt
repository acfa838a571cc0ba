use Rattle.std.proofs.Common.{◌≡◌, ◌<◌, ◌++◌, [], ◌∷◌, length, take, refl, sym, ap, ◌∙◌, arith, rules}
use Rattle.fut_lexer.specs.declared.front.Front.TheVariants as front
use Rattle.fut_lexer.specs.Private.FrontReading.{front_at}
use Rattle.fut_lexer.specs.Positions.{moved, text_start}
use Rattle.fut_lexer.specs.Scanned.{token_at, bad, float, behind_gap, behind_attribute, behind_token}
use Rattle.fut_lexer.proofs.Fronts.{a_gap, an_attribute, a_token, a_float, no_rule}
use Rattle.fut_lexer.proofs.Moves.{room_over}
use Rattle.fut_lexer.proofs.LexerTurns.{goes_gap, goes_attribute, goes_token, cut_gap, cut_attribute, cut_token, ended}
use Rattle.fut_lexer.proofs.lexer.read.Goals as goal

pub returns-then-is_empty : goal.returns-then-is_empty
returns-then-is_empty c = ended c.args.file text_start c.text.position c.text.tight c.text.joined c.args.text.now c.text.rest.now c.text.tokens (search rules) c.text.invariant.goes_on

pub returns : goal.returns
returns c = ended c.args.file text_start c.text.position c.text.tight c.text.joined c.args.text.now c.text.rest.now c.text.tokens (omega (arith, c.text.invariant.shorter, c.text-test.false)) c.text.invariant.goes_on

pub text-preserved-in-Gap : goal.text-preserved-in-Gap
text-preserved-in-Gap c =
    let e : front_at c.text.joined c.text.rest.now ≡ front.Gap c.in-Gap.n = sym c.in_ok-n.ensures ∙ c.in-Gap.is in
    let q = c.moved-position.ensures ∙ ap (moved c.text.position) c.front_part.ensures in
    let lt : 0 < length c.text.rest.now = search rules in
    rw (q, c.behind-rest.ensures) (record {
      goes_on = goes_gap c.args.file c.text.position c.text.tight c.text.joined c.text.rest.now c.args.text.now text_start c.text.tokens c.in-Gap.n c.text.invariant.goes_on e;
      refuses = λ x r. c.text.invariant.refuses x (behind_gap (a_gap c.text.joined c.text.rest.now c.in-Gap.n e) r);
      room = (room_over c.text.position c.in-Gap.n c.text.rest.now c.text.invariant.room).1;
      shorter = cut_gap c.text.joined c.text.rest.now c.text._step (length c.args.text.now) lt c.text.invariant.shorter c.in-Gap.n e;
    })

pub text-preserved-in-Attribute : goal.text-preserved-in-Attribute
text-preserved-in-Attribute c =
    let e : front_at c.text.joined c.text.rest.now ≡ front.Attribute c.in-Attribute.n = sym c.in_ok-n.ensures ∙ c.in-Attribute.is in
    let q = c.moved-position-in-Attribute.ensures ∙ ap (moved c.text.position) c.front_part-in-Attribute.ensures in
    let lt : 0 < length c.text.rest.now = search rules in
    rw (q, c.behind-rest-in-Attribute.ensures) (record {
      goes_on = goes_attribute c.args.file c.text.position c.text.tight c.text.joined c.text.rest.now c.args.text.now text_start c.text.tokens c.in-Attribute.n c.text.invariant.goes_on e;
      refuses = λ x r. c.text.invariant.refuses x (behind_attribute (an_attribute c.text.joined c.text.rest.now c.in-Attribute.n e) r);
      room = (room_over c.text.position c.in-Attribute.n c.text.rest.now c.text.invariant.room).1;
      shorter = cut_attribute c.text.joined c.text.rest.now c.text._step (length c.args.text.now) lt c.text.invariant.shorter c.in-Attribute.n e;
    })

pub text-preserved : goal.text-preserved
text-preserved c =
    let e : front_at c.text.joined c.text.rest.now ≡ front.Token c.in-Token.kind c.in-Token.n = sym c.in_ok-n.ensures ∙ c.in-Token.is in
    let q = c.moved-position-in-Token.ensures ∙ ap (moved c.text.position) c.front_part-in-Token.ensures in
    let lt : 0 < length c.text.rest.now = search rules in
    let w : c.push.new.self ≡ c.text.tokens ++ token_at c.args.file c.text.position (moved c.text.position (take c.in-Token.n c.text.rest.now)) c.text.tight c.in-Token.kind ∷ [] = rw (c.in_ok-push-in-Token.ensures.ok, c.token_between.ensures, q) refl in
    rw (w, q, c.behind-rest-in-Token.ensures, c.joins-joined.ensures) (record {
      goes_on = goes_token c.args.file c.text.position c.text.tight c.text.joined c.text.rest.now c.args.text.now text_start c.text.tokens c.in-Token.kind c.in-Token.n c.text.invariant.goes_on e;
      refuses = λ x r. c.text.invariant.refuses x (behind_token (a_token c.text.joined c.text.rest.now c.in-Token.kind c.in-Token.n e) r);
      room = (room_over c.text.position c.in-Token.n c.text.rest.now c.text.invariant.room).1;
      shorter = cut_token c.text.joined c.text.rest.now c.text._step (length c.args.text.now) lt c.text.invariant.shorter c.in-Token.kind c.in-Token.n e;
    })

pub returns-in-Bad : goal.returns-in-Bad
returns-in-Bad c =
    let e : front_at c.text.joined c.text.rest.now ≡ front.Bad = sym c.in_ok-n.ensures ∙ c.in-Bad.is in
    let lt : 0 < length c.text.rest.now = search rules in
    rw (c.bad_token.ensures, c.place_of.ensures) (c.text.invariant.refuses _ (bad lt (no_rule c.text.joined c.text.rest.now e)))

pub returns-in-Float : goal.returns-in-Float
returns-in-Float c =
    let e : front_at c.text.joined c.text.rest.now ≡ front.Float = sym c.in_ok-n.ensures ∙ c.in-Float.is in
    rw (c.float.ensures, c.place_of-in-Float.ensures) (c.text.invariant.refuses _ (float (a_float c.text.joined c.text.rest.now e)))
