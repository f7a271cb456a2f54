use denote.Param.Send.{sendable}
use Rattle.std.proofs.Common.{ap, ◌∙◌}
use Rattle.std.proofs.Crossing as std
use Rattle.adr_book.proofs.Crossing.{book_sync}
use Rattle.adr_desk.proofs.KeysCrossing.{audiences_sync}
use Rattle.adr_desk.proofs.Seats.{all_ready, asked_refusal, asked_writes}
use Rattle.adr_desk.proofs.bulk.sharing.writes_between.Goals as goal

pub map-requires-send-F : goal.map-requires-send-F
map-requires-send-F g c κs within = search (sendable, std.crosses, book_sync, audiences_sync) depth 60 fits 60000

pub map-requires-sync-F : goal.map-requires-sync-F
map-requires-sync-F g c κs within = search (sendable, std.crosses, book_sync, audiences_sync) depth 60 fits 60000

pub collect-requires-send-Self : goal.collect-requires-send-Self
collect-requires-send-Self g c κs within = search (sendable, std.crosses, book_sync, audiences_sync) depth 60 fits 60000

pub collect-requires-clause-ready : goal.collect-requires-clause-ready
collect-requires-clause-ready g c κs within =
    let f = c.map.result.f in
    let range = ap (λ it. it.base) c.map.ensures.base ∙ c.with_min_len.ensures.base in
    all_ready f.0.now.objects c.args.book.now.objects f.1.now c.args.keys.now c.map.result.base.base.start c.map.result.base.base.end c.args.start c.args.end
    (ap (λ x. x.0.now.objects) c.map.ensures.f) (ap (λ x. x.1.now) c.map.ensures.f) (ap (λ r. r.start) range ∙ c.into_par_iter.ensures.0)
    (ap (λ r. r.end) range ∙ c.into_par_iter.ensures.1) c.requires.end c.requires.keys

pub returns-clause-writes : goal.returns-clause-writes
returns-clause-writes g c =
    let asked = c.in_ok-collect.ensures in
    let chain = asked.1 in
    let range = ap (λ it. it.base) c.map.ensures.base ∙ c.with_min_len.ensures.base in
    asked_writes c.map.result.f.0.now.objects c.args.book.now.objects (ap (λ x. x.0.now.objects) c.map.ensures.f) c.map.result.base.base.start c.map.result.base.base.end c.args.start c.args.end
    (ap (λ r. r.start) range ∙ c.into_par_iter.ensures.0) (ap (λ r. r.end) range ∙ c.into_par_iter.ensures.1)
    (λ v. v.items) chain.0 asked.0 c.in_ok-collect.field-0 chain.1 chain.2 asked.2

pub returns-clause-refusal : goal.returns-clause-refusal
returns-clause-refusal g c =
    let asked = c.in_ok-collect.ensures in
    let chain = asked.1 in
    let range = ap (λ it. it.base) c.map.ensures.base ∙ c.with_min_len.ensures.base in
    asked_refusal c.map.result.f.0.now.objects c.args.book.now.objects (ap (λ x. x.0.now.objects) c.map.ensures.f) c.map.result.base.base.start c.map.result.base.base.end c.args.start c.args.end
    (ap (λ r. r.start) range ∙ c.into_par_iter.ensures.0) (ap (λ r. r.end) range ∙ c.into_par_iter.ensures.1)
    (λ v. v.items) chain.0 asked.0 c.in_ok-collect.field-0 chain.1 chain.2 asked.2
