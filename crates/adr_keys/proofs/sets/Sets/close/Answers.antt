use Rattle.std.proofs.Common.{◌≡◌, ◌<◌, [], length, get_or, ap, sym, ◌∙◌, arith}
use Rattle.adr_keys.specs.Key.{same_key}
use Rattle.adr_keys.specs.Blocks.{includes}
use Rattle.indexmap.specs.Layout.{set_value_at}
use Rattle.std.specs.Map.{keys_of, values_of}
use Rattle.std.proofs.lemmas.Option.{none-some, slice_get-get_or, get_or_from_slice_get}
use Rattle.std.proofs.lemmas.Map.Entries.{length-keys_of, length-values_of}
use Rattle.adr_keys.proofs.Held.{keys-set, closed-next, closed-all, closed-found}
use Rattle.adr_keys.proofs.sets.Sets.close.Goals.{in-Some, in-None}
use Rattle.adr_keys.proofs.sets.Sets.close.Goals as goal

pub loop-index-preserved : goal.loop-index-preserved
loop-index-preserved c =
    let old = c.args.self.now.places.entries in
    let es = c.loop-index.self.places.entries in
    let index = c.loop-index.index in
    let within : index < length (values_of es) = omega (arith, length-values_of es, length-keys_of es, length-keys_of old, ap length c.loop-index.invariant.keys, c.loop-index-test.true, c.len-index-end.ensures.len) in
    elim c.match-get_index_mut.branch [
      | in-Some w ↦
          let new = w.close.new.self in
          let v = w.in-Some.places.now in
          let e : c.match-get_index_mut.self.places.entries ≡ set_value_at es index new = ap (λ s. s.places.entries) w.self-is in
          let got : get_or (values_of es) index [] ≡ v = get_or_from_slice_get (values_of es) index v [] (sym w.in-Some.ensures.value) in
          record {
            keys = ap keys_of e ∙ keys-set es index new ∙ c.loop-index.invariant.keys;
            sets = λ i p. ap (λ xs. includes (get_or (values_of xs) i []) p) e ∙ closed-next c.args.place index old es v new within c.loop-index.invariant.sets got w.close.ensures i p;
          }
      | in-None w ↦ absurd (none-some _ (w.in-None.ensures.value ∙ slice_get-get_or (values_of es) index [] within))
    ]

pub returns : goal.returns
returns c = λ k p.
    let old = c.args.self.now.places.entries in
    let es = c.loop-index.self.places.entries in
    closed-found c.args.place (same_key k) old es c.loop-index.invariant.keys
    (closed-all c.args.place c.loop-index.index old es (omega (arith, length-values_of old, c.loop-index-test.false, c.len-index-end.ensures.len)) c.loop-index.invariant.sets) p
