-- What files answer by their names, from a definition on, for arguments that are data, with the number of words that it makes;
-- and that a lawful answer is the only one.
use Rattle.std.specs.Prelude.{◌≡◌, ℕ, List, Bool, true, false}
use Rattle.fut_meaning.specs.Found.{Told}
use Rattle.fut_meaning.specs.Answers.{Answer, out_of}
use Rattle.fut_meaning.specs.Datums.{Datum, all_values}
use Rattle.fut_meaning.specs.Lawful.{lawful}
use Rattle.fut_meaning.specs.Meaning.{plain}
use Rattle.fut_meaning.specs.Sources.{SourceMode, Source_means}
use Rattle.elab_scopes.specs.Declarations.{State}
use Rattle.elab_scopes.specs.Elaboration.{Declare}
use Rattle.elab_scopes.specs.Imports.{Source_file}
use Rattle.elab_laws.specs.Sourced.{source_of}

-- The files, whose integers without a suffix have the types that are told, with a budget of turns for each `while`, from the
-- definition with the number `entry` of those that they declare.
module _ (files : List Source_file) (told : Told) (budget entry : ℕ) (arguments : List Datum) where
  -- where a mode says what derivations may choose
  abbrev pub Files_mean : SourceMode → Answer → ℕ → Type 0
  Files_mean M answer words = (s : State) × Declare files s × Source_means told M budget (source_of s) entry (all_values arguments) (out_of answer) words

  -- with any trees of reductions, or, tight, with those alone that have at most one more neutral leaf than other leaves
  abbrev pub Files_allow : (tight : Bool) → Answer → ℕ → Type 0
  Files_allow tight = Files_mean (plain tight)

  -- with lawful operators, and without a place that a scatter names twice
  abbrev pub Files_lawfully_allow : Answer → ℕ → Type 0
  Files_lawfully_allow = Files_mean lawful

-- Where files lawfully allow an answer, they allow no other.
abbrev pub LawfulFilesHaveOneAnswer : Type 0
LawfulFilesHaveOneAnswer =
    (files : List Source_file) (told : Told) (budget entry : ℕ) (arguments : List Datum) (answer other : Answer) (words others : ℕ) (tight : Bool)
    → Files_lawfully_allow files told budget entry arguments answer words → Files_allow files told budget entry arguments tight other others → other ≡ answer

-- And what they allow with few neutral leaves, they allow, with the same number of words.
abbrev pub TightFilesAllowNoMore : Type 0
TightFilesAllowNoMore =
    (files : List Source_file) (told : Told) (budget entry : ℕ) (arguments : List Datum) (answer : Answer) (words : ℕ)
    → Files_allow files told budget entry arguments true answer words → Files_allow files told budget entry arguments false answer words
