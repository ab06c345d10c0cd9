-- What a plan says of the file.
use Rattle.heif.specs.Answer.{length_answer}
use Rattle.plan.proofs.form_length.Goals as goal

pub returns-clause-answer : goal.returns-clause-answer
unfolding length_answer
returns-clause-answer c =
    let made = c.in_ok-plan_of.ensures.planned in
    rw (made.accepted, made.long)
