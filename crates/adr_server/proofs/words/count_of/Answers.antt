use Rattle.std.proofs.Common.{◌∙◌, ap, ◌≡◌, codes, sym, true, false, List, Bool, Option, if◌then◌else◌}
use Rattle.std.specs.Str.Parse.{ParsesUnsigned, ExplainsUnsignedError, HasUnsignedDigitsIfOk}
use Rattle.clap.specs.Words.{Row, Text, found_of, one_of, rows_of}
use Rattle.clap.proofs.WalkLemmas.{one_text-rows}
use Rattle.adr_server.specs.Grammar.{count_in, is_fan_name}
use Rattle.adr_server.proofs.Reading.{byte_read}
use Rattle.adr_server.proofs.words.count_of.Goals as goal

-- which option the name has
abbrev under : Bool → List Row → Option Text
under is_fan rows = if is_fan then one_of (codes "readers") rows else one_of (codes "workers") rows

pub returns-then-eq : goal.returns-then-eq
returns-then-eq c = λ text written numeral small.
    let rows = rows_of (found_of c.in_ok-name.own.now) in
    let is_fan : is_fan_name c.in_ok-name.name.now ≡ true = sym c.eq.ensures ∙ c.if-eq.true in
    let here : one_of (codes "readers") rows ≡ under (is_fan_name c.in_ok-name.name.now) rows = ap (λ b. under b rows) (sym is_fan) in
    let own = one_text-rows (found_of c.in_ok-name.own.now) (codes "readers") ∙ here ∙ ap count_in c.in_ok-name.ensures ∙ written in
    byte_read (λ bytes r. ParsesUnsigned 8 10 bytes r × ExplainsUnsignedError 10 bytes r × HasUnsignedDigitsIfOk bytes r) (λ _ _ h. h.0) text
    c.get_one.result (c.get_one.ensures.value text own) numeral small

pub returns-else-eq : goal.returns-else-eq
returns-else-eq c = λ text written numeral small.
    let rows = rows_of (found_of c.in_ok-name.own.now) in
    let is_not : is_fan_name c.in_ok-name.name.now ≡ false = sym c.eq.ensures ∙ c.if-eq.false in
    let here : one_of (codes "workers") rows ≡ under (is_fan_name c.in_ok-name.name.now) rows = ap (λ b. under b rows) (sym is_not) in
    let own = one_text-rows (found_of c.in_ok-name.own.now) (codes "workers") ∙ here ∙ ap count_in c.in_ok-name.ensures ∙ written in
    byte_read (λ bytes r. ParsesUnsigned 8 10 bytes r × ExplainsUnsignedError 10 bytes r × HasUnsignedDigitsIfOk bytes r) (λ _ _ h. h.0) text
    c.get_one-else-eq.result (c.get_one-else-eq.ensures.value text own) numeral small
