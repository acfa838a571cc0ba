-- On data of one shape primitives and operations report no size by themselves, where what does not fit is reported.
use Rattle.sized_meaning.specs.There.{There}
use Rattle.sized_meaning.proofs.Outcomes.{gives_exact, gives_then}
use Rattle.std.proofs.Common.{◌≡◌, ℕ, List, true, false, ◌∙◌, subst}
use Rattle.fut_value.specs.Data.{Datum}
use Rattle.fut_meaning.specs.Datums.{as_value}
use Rattle.fut_meaning.specs.Jobs.{job}
use Rattle.fut_meaning.specs.Meaning.{unrestricted}
use Rattle.fut_meaning.specs.Outcomes.{Out, Val, Fail, Wrong}
use Rattle.sized_meaning.specs.Misfits.{applies, primitive_gives}
use Rattle.sized_meaning.specs.Reports.{Value_there, PrimitivesReportNoSizes, OperationsReportNoSizes}
use Rattle.sized_meaning.proofs.Misfits.{no_operation_misfits}
use Rattle.sized_meaning.proofs.Primitive_misfits.{no_primitive_misfits}
use Rattle.sized_meaning.proofs.Reporting.{Fine, Job_there, made_fine, job_there}
use Rattle.sized_meaning.proofs.Size_reports.{Blames, after, blames_job, data_there}

pub primitives_report_no_sizes : PrimitivesReportNoSizes
unfolding unrestricted
primitives_report_no_sizes size shape W row p at ds f is_there t x g quiet r words y = goes_wrong (Fail r) words ((no_primitive_misfits size shape W row p at ds f x g (Fail r) words).1 y)
  where
    outcome : (es : List Datum) (o : Out Datum) (n : ℕ) → applies W p f es o n → Fine is_there o
    outcome es (Val d) n z = tt
    outcome es (Fail q) n z = quiet es q n z
    outcome es Wrong n z = tt

    goes_wrong : Blames is_there (Value_there is_there) (primitive_gives W true row p at ds f)
    goes_wrong = after is_there (Job_there is_there) (Value_there is_there) (job true row p at ds) _ (job_there is_there row p at ds t)
        (λ j h. gives_then (λ a. Unit {0}) (Value_there is_there) _ _ (blames_job is_there W.tight _ _ (applies W p f) outcome j h) (λ d u. gives_exact (There is_there) (Value_there is_there) 0 (Val (as_value d)) (data_there is_there d)))

pub operations_report_no_sizes : OperationsReportNoSizes
operations_report_no_sizes row m at ds r h e k = absurd (let z : false ≡ true = subst (λ o. Fine (λ q. false) o) (no_operation_misfits row m at ds h ∙ e) (made_fine (λ q. false) row m at ds) k in cc)
