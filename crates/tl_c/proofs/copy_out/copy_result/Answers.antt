use Rattle.std.proofs.Common.{◌≡◌, Err, ap, subst, sym, ◌∙◌}
use Rattle.tl_page.specs.Outcome.{success}
use Rattle.tl_page.specs.declared.failure.Failure.TheVariants.{NotUnderstood, OutOfMemory, Refused}
use Rattle.tl_c.specs.Puts.{Puts}
use Rattle.tl_c.proofs.Room.{put_front}
use Rattle.tl_c.proofs.copy_out.copy_result.Goals as goal

pub returns-in-Ok-clause-put : goal.returns-in-Ok-clause-put
returns-in-Ok-clause-put g c = λ outcome is.
    let is_items = rw c.in-Ok.is at is in
    subst (λ o. Puts o c.args.out.now c.copy_items.new.out c.copy_items.new.needed c.copy_items.result)
    (ap success c.as_slice.ensures.value ∙ sym is_items)
    c.copy_items.ensures.put

pub returns-in-Err-clause-put : goal.returns-in-Err-clause-put
returns-in-Err-clause-put g c = λ outcome is.
    let fails = rw c.in-Err.is at is in c.report_failure.ensures.put outcome fails

pub returns-in-Ok-clause-memory : goal.returns-in-Ok-clause-memory
returns-in-Ok-clause-memory g c =
    (λ three. absurd (c.copy_items.ensures.memory three), λ lost. let is = c.in-Ok.is in absurd (cc))

pub returns-in-Err-clause-memory : goal.returns-in-Err-clause-memory
returns-in-Err-clause-memory g c = (
  λ three. c.in-Err.is ∙ ap Err (c.report_failure.ensures.memory.0 three),
  λ lost.
      let is = c.in-Err.is in
      let same : c.in-Err.failure ≡ OutOfMemory = cc in
      c.report_failure.ensures.memory.1 same,
)

pub returns-in-Err-clause-refused : goal.returns-in-Err-clause-refused
returns-in-Err-clause-refused g c = (
  λ one. c.in-Err.is ∙ ap Err (c.report_failure.ensures.refused.0 one),
  λ refused.
      let is = c.in-Err.is in
      let same : c.in-Err.failure ≡ Refused = cc in
      c.report_failure.ensures.refused.1 same,
)

pub returns-in-Ok-clause-refused : goal.returns-in-Ok-clause-refused
returns-in-Ok-clause-refused g c =
    (λ one. absurd (c.copy_items.ensures.refused one), λ refused. let is = c.in-Ok.is in absurd (cc))

pub returns-in-Err-clause-not_understood : goal.returns-in-Err-clause-not_understood
returns-in-Err-clause-not_understood g c = (
  λ two. c.in-Err.is ∙ ap Err (c.report_failure.ensures.not_understood.0 two),
  λ lost.
      let is = c.in-Err.is in
      let same : c.in-Err.failure ≡ NotUnderstood = cc in
      c.report_failure.ensures.not_understood.1 same,
)

pub returns-in-Ok-clause-not_understood : goal.returns-in-Ok-clause-not_understood
returns-in-Ok-clause-not_understood g c =
    (λ two. absurd (c.copy_items.ensures.understood two), λ lost. let is = c.in-Ok.is in absurd (cc))

pub returns-in-Ok-clause-items : goal.returns-in-Ok-clause-items
returns-in-Ok-clause-items g c = λ is_done.
    rw c.in-Ok.is
    (put_front _ c.args.out.now c.copy_items.new.out c.copy_items.new.needed c.copy_items.result c.copy_items.ensures.put is_done ∙ c.as_slice.ensures.value)

pub returns-in-Err-clause-items : goal.returns-in-Err-clause-items
returns-in-Err-clause-items g c = λ is_done. absurd (c.report_failure.ensures.failed is_done)
