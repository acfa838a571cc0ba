-- From what was done with the words to the row of the call, and to what the call comes to.
use Rattle.std.proofs.Common.{◌≡◌, ℕ, List, refl, sym, ap, subst, ◌∙◌, ◌⊎◌, inl, inr}
use Rattle.std.specs.Prelude.{Option, Some, None, IfSome, Result, Ok, Err}
use Rattle.futhark_core.specs.Row.{Outside}
use Rattle.futhark_core.specs.Comes.{Ending, Onward, NoFault, Agrees}
use Rattle.futhark_status.specs.declared.status.Status.{Status}
use Rattle.futhark_status.specs.declared.status.Status.TheVariants.{Done, Usage, WriteFault, Memory}
use Rattle.futhark_command.specs.Call.{bad_word, text_asked, WrittenRow, AskedComplete, Asked, Texts, CallComplete}

pub told_complete : (status : Status) (text : List ℕ) (old new : Outside) → WrittenRow status text old.out new.out → NoFault old new → status ≡ Done
told_complete Done text old new row quiet = refl
told_complete WriteFault text old new row quiet = absurd (quiet.out row.faults)
told_complete status text old new row quiet = absurd row

module _ (status : Status) (told : Option (List (List ℕ))) (old new : Outside) where
  asked_complete : (asked : Option (List ℕ)) (words : List (List ℕ)) → AskedComplete asked status words old new → (end : Result Ending Status) →
      Asked asked words old.loader.files old.input.left end → NoFault old new → Agrees status end ⊎ (status ≡ Memory)
  asked_complete (Some text) words complete end is quiet = inl (subst (λ z. Agrees status z) (sym is) (complete quiet))
  asked_complete None words complete end comes quiet = complete end comes quiet

  module _ (all : List (List ℕ)) (end : Result Ending Status) (quiet : NoFault old new) where
    good_words : (words : List (List ℕ)) → all ≡ words → bad_word 1 words ≡ None → AskedComplete (text_asked words) status words old new →
        (middle : Result (List (List ℕ)) Status) → Texts all middle → Onward middle (λ texts. Asked (text_asked texts) texts old.loader.files old.input.left) end →
        Agrees status end ⊎ (status ≡ Memory)
    good_words words given texts complete (Ok same) t on =
        asked_complete (text_asked words) words complete end
        (subst (λ (ws : List (List ℕ)). Asked (text_asked ws) ws old.loader.files old.input.left end) (t.1 ∙ given) on) quiet
    good_words words given texts complete (Err s) t on = let bad = t.1 in let good = rw given at bad in absurd cc

    bad_words : (number : ℕ) → status ≡ Usage number → bad_word 1 all ≡ Some number →
        (middle : Result (List (List ℕ)) Status) → Texts all middle → Onward middle (λ texts. Asked (text_asked texts) texts old.loader.files old.input.left) end →
        Agrees status end ⊎ (status ≡ Memory)
    bad_words number is first (Ok same) t on = let good = t.0 in absurd cc
    bad_words number is first (Err s) t on =
        let other = t.1 in let same : t.0 ≡ number = cc in
        inl (subst (λ z. Agrees status z) (sym on) (inl (is ∙ ap Usage (sym same) ∙ sym t.2)))

  pub answered_complete : (words : List (List ℕ)) → IfSome told (λ all. all ≡ words) → bad_word 1 words ≡ None → AskedComplete (text_asked words) status words old new → CallComplete status told old new
  answered_complete words given texts complete all is end comes quiet =
      let own = rw is at given in good_words all end quiet words own texts complete comes.0 comes.1 comes.2

  pub bad_complete : (number : ℕ) → status ≡ Usage number → IfSome told (λ all. bad_word 1 all ≡ Some number) → CallComplete status told old new
  bad_complete number is first all told_is end comes quiet =
      let own = rw told_is at first in bad_words all end quiet number is own comes.0 comes.1 comes.2

  pub spent_complete : status ≡ Memory → CallComplete status told old new
  spent_complete is all told_is end comes quiet = inr is
