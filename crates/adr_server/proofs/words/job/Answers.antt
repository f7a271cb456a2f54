use Rattle.std.proofs.Common.{rules, ◌≡◌, map, string_bytes, ap, ap₂, ◌∙◌, sym, true, refl, subst}
use Rattle.std.proofs.lemmas.Result.{IfOk-from_err, err_from_is_err_and}
use Rattle.clap.specs.Words.{HasKind, app_of, fault_of, is_simple, is_simple_and_free, subcommand_of}
use Rattle.clap.proofs.OnLiterals.{clap_on_literals}
use Rattle.adr_server.specs.Grammar.{Places, adr_grammar, count_in, is_fan_in, tie_in, tie_named}
use Rattle.adr_server.specs.Task.{HasTheCount}
use Rattle.adr_server.proofs.words.job.Goals as goal

is_free : (places : Places) → is_simple_and_free (adr_grammar places) ≡ true
unfolding clap_on_literals
is_free places = refl

simple : (places : Places) → is_simple (adr_grammar places) ≡ true
unfolding clap_on_literals
simple places = refl

-- where nothing was parsed, for want of memory
anywhere : Places
anywhere = record { names = (0, 0); newest = (0, 0); latest_start = (0, 0) }

pub returns-in_err-adr-clause-asked : goal.returns-in_err-adr-clause-asked
returns-in_err-adr-clause-asked c = (anywhere, (search rules, IfOk-from_err _ _ c.from_residual.ensures.0))

pub returns-in_err-matches-clause-asked : goal.returns-in_err-matches-clause-asked
returns-in_err-matches-clause-asked c =
    let p = err_from_is_err_and c.from_residual-in_err-matches.result c.from_residual-in_err-matches.ensures.1 in
    let places = c.in_ok-adr.ensures.0 in
    let is : app_of c.in_ok-adr.adr ≡ adr_grammar places = c.in_ok-adr.ensures.1 in
    let words_are = ap (map string_bytes) c.as_slice.ensures.value in (
      places,
      (
        rw (p.1, p.2)
            (subst (λ kinds. HasKind kinds c.in_err-matches.field-0.0) (ap₂ fault_of is words_are) (c.in_err-matches.ensures.kinds (ap is_simple_and_free is ∙ is_free places))),
        IfOk-from_err _ _ c.from_residual-in_err-matches.ensures.0,
      ),
    )

pub returns-clause-asked : goal.returns-clause-asked
returns-clause-asked c =
    let places = c.in_ok-adr.ensures.0 in
    let is : app_of c.in_ok-adr.adr ≡ adr_grammar places = c.in_ok-adr.ensures.1 in
    let words_are = ap (map string_bytes) c.as_slice.ensures.value in
    let entered = (c.in_ok-matches.ensures.matches (ap is_simple is ∙ simple places)).1 ∙ ap₂ subcommand_of is words_are in
    let count : HasTheCount (adr_grammar places) (map string_bytes c.args.words.items) c.job_with.result = λ text written numeral low high.
    c.job_with.ensures.count ∙ c.count_asked-count.ensures.asked text (ap count_in entered ∙ written) numeral low high
    in (
      places,
      (
        sym (ap₂ fault_of is words_are) ∙ c.in_ok-matches.ensures.kinds (ap is_simple_and_free is ∙ is_free places),
        (
          c.job_with.ensures.fan ∙ c.is_fan-is_fan.ensures ∙ ap is_fan_in entered,
          count,
          c.job_with.ensures.tie ∙ c.tie_of-tie.ensures ∙ ap (λ own. tie_named (tie_in own)) entered,
        ),
      ),
    )
