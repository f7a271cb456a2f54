use Rattle.std.proofs.Common.{◌∙◌, sym, ap, subst, inr}
use Rattle.std.specs.Prelude.{Result, Err}
use Rattle.adr_refusal.specs.Answer.{Answers}
use Rattle.adr_refusal.specs.declared.refusal.Refusal.{Refusal}
use Rattle.adr_refusal.specs.declared.refusal.Refusal.TheVariants.{BadText}
use Rattle.adr_value.specs.Payload.{type_named}
use Rattle.adr_value.specs.declared.payload.PayloadType.{PayloadType}
use Rattle.adr_resolver.proofs.Words.{is_text, no_text}
use Rattle.adr_resolver.proofs.line.type_word.Goals as goal

pub returns-in-Ok : goal.returns-in-Ok
returns-in-Ok c =
    subst (λ (d : Result (PayloadType) Refusal). Answers c.type_of.result d)
    (ap type_named c.in-Ok.ensures.cases.0 ∙ sym (is_text c.args.word.now (type_named c.args.word.now) (Err BadText) c.in-Ok.ensures.cases.1))
    c.type_of.ensures

pub returns-in-Err : goal.returns-in-Err
returns-in-Err c = inr (no_text c.args.word.now (type_named c.args.word.now) (Err BadText) c.in-Err.ensures.cases.0)
