use Rattle.std.proofs.Common.{◌≡◌, List, subst, ap, sym, ◌∙◌}
use Rattle.adr_keys.specs.declared.key.Key.{Key}
use Rattle.adr_model.specs.Book.{Book}
use Rattle.adr_model.proofs.Events.{one_write}
use Rattle.adr_audience.specs.Asks.{applying_writes, asked_keys}
use Rattle.adr_audience.specs.Keys.{AreKeysOf}
use Rattle.adr_audience.specs.Offers.{offers}
use Rattle.adr_lines.specs.Right.{has_number}
use Rattle.adr_regroup.proofs.PartyNumbers.{written_with, numbers_of}
use Rattle.adr_regroup.proofs.spot.writes_for.Goals as goal

pub returns-clause-writes : goal.returns-clause-writes
returns-clause-writes c = λ r v same.
    let book = c.args.book.now.objects in
    let own = c.args.resource.now in
    let ven = c.args.ven.now in
    let numbers = c.in_ok-numbers.numbers.items in
    let found = subst (λ (b : Book). AreKeysOf b c.args.keys.now → numbers ≡ numbers_of (applying_writes b own ven)) c.objects.ensures c.in_ok-numbers.ensures.numbers c.requires.keys in
    let alike = ap (λ (rows : List (List Key)). asked_keys rows (offers own ven)) (sym c.requires.keys.1) ∙ sym c.requires.asked ∙ sym same in
    written_with book (one_write book.events c.book_laws.ensures.whole.sound.writes) r v c.of.result
    (λ n. c.of.ensures n ∙ ap (λ ns. has_number ns n) (found ∙ ap numbers_of (c.events_follow_asked.ensures book own r ven v alike)))
