use Rattle.std.proofs.Common.{◌≡◌, ℕ, ◌+◌, ◌-◌, ◌++◌, ◌∷◌, length, take, drop, ap, ◌∙◌, arith, append-nil, length-drop}
use Rattle.std.specs.Fmt.{decimal}
use Rattle.std.proofs.lemmas.Fmt.{decimal_nonempty, length-decimal-le}
use Rattle.std.proofs.lemmas.List.{drop-set, length-replicate}
use Rattle.adr_calendar.proofs.Digits.{padded}
use Rattle.adr_calendar.proofs.printing.write_places.Goals as goal

pub write_digits-digits-requires : goal.write_digits-digits-requires
write_digits-digits-requires c =
    let few = length-decimal-le c.args.places c.args.rest c.requires.some c.requires.rest c.ranges.rest.fits in (
      omega (arith, c.requires.places, few),
      omega (arith, ap length c.requires.zeros, length-replicate {A = ℕ} 48 48),
    )

pub returns-clause-written : goal.returns-clause-written
returns-clause-written c =
    let w = c.write_digits-digits in
    let few = length-decimal-le c.args.places c.args.rest c.requires.some c.requires.rest c.ranges.rest.fits in
    let before = w.ensures.before ∙ ap (take w.result) c.requires.zeros in
    let behind : drop w.result w.new.buf ≡ decimal c.args.rest =
    w.ensures.written ∙ ap (λ ts. decimal c.args.rest ++ drop 48 ts) c.requires.zeros ∙ append-nil (decimal c.args.rest) in
    let long : length w.new.buf ≡ 48 =
    omega (arith, length-drop w.result w.new.buf, ap length behind, decimal_nonempty c.args.rest c.ranges.rest.fits, w.ensures.start) in
    let next : 47 - c.args.places + 1 ≡ 48 - c.args.places = omega (arith, c.requires.places) in
    drop-set w.new.buf (47 - c.args.places) 46 (omega (arith, long))
    ∙ ap (λ n. 46 ∷ drop n w.new.buf) next
    ∙ ap (λ ds. 46 ∷ ds) (padded w.new.buf w.result c.args.places c.args.rest w.ensures.start before behind few (omega (arith, c.requires.places)))
