-- Whether sized types agree, as an answer in which memory could run out.
use Rattle.std.specs.Prelude.{◌≡◌, Result, Ok, Err}
use Rattle.fut_sizes.specs.Agreeing.{Answer}
use Rattle.size_arena.specs.declared.agreeing.Refusal.{Refusal}
use Rattle.size_arena.specs.declared.agreeing.SizeErr.{SizeErr}
use Rattle.size_arena.specs.declared.agreeing.SizeErr.TheVariants as size_err
use Rattle.size_arena.specs.Answers.{refusal_of}

-- the definition's answer; memory doesn't run out
pub data Agrees (a : Answer (Unit {0})) : Result (Unit {0}) SizeErr → Type 0 where
  agrees : a ≡ Ok tt → Agrees a (Ok tt)
  differs : {e : Refusal} → a ≡ Err (refusal_of e) → Agrees a (Err (size_err.Refused e))
