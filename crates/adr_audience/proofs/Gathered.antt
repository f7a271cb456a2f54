-- The keys of a row, target by target.
use Rattle.std.proofs.Common.{◌≡◌, ℕ, ◌<◌, ◌+◌, ◌++◌, ◌∷◌, [], List, length, get_or, take, flat_map, ap, sym, ◌∙◌}
use Rattle.std.proofs.lemmas.List.{take_more, flat_map_more}
use Rattle.adr_value.specs.declared.datum.Datum.{Datum}
use Rattle.adr_object.specs.declared.event.Target.{Target}
use Rattle.adr_keys.specs.declared.key.Key.{Key}
use Rattle.adr_audience.specs.Asks.{asked_by, asked_by_target}
use Rattle.adr_audience.specs.Offers.{keys_of, keys_of_target}

pub targets_more : (bs keys : List Key) (ts : List Target) (i : ℕ) (t : Target) → i < length ts → t ≡ get_or ts i t → keys ≡ bs ++ keys_of (take i ts)
    → bs ++ keys_of (take (i + 1) ts) ≡ keys ++ keys_of_target t
targets_more bs keys ts i t h e k =
    ap (λ xs. bs ++ keys_of xs) (take_more ts i t h ∙ ap (λ x. take i ts ++ x ∷ []) (sym e))
    ∙ sym (flat_map_more keys_of_target bs (take i ts) t) ∙ ap (λ xs. xs ++ keys_of_target t) (sym k)

pub asked_more : (bs keys : List Key) (ts : List Target) (i : ℕ) (t : Target) → i < length ts → t ≡ get_or ts i t → keys ≡ bs ++ asked_by (take i ts)
    → bs ++ asked_by (take (i + 1) ts) ≡ keys ++ asked_by_target t
asked_more bs keys ts i t h e k =
    ap (λ xs. bs ++ asked_by xs) (take_more ts i t h ∙ ap (λ x. take i ts ++ x ∷ []) (sym e))
    ∙ sym (flat_map_more asked_by_target bs (take i ts) t) ∙ ap (λ xs. xs ++ asked_by_target t) (sym k)

pub values_more : (g : Datum → List Key) (bs keys : List Key) (vs : List Datum) (i : ℕ) (v : Datum) → i < length vs → v ≡ get_or vs i v → keys ≡ bs ++ flat_map g (take i vs)
    → bs ++ flat_map g (take (i + 1) vs) ≡ keys ++ g v
values_more g bs keys vs i v h e k =
    ap (λ xs. bs ++ flat_map g xs) (take_more vs i v h ∙ ap (λ x. take i vs ++ x ∷ []) (sym e))
    ∙ sym (flat_map_more g bs (take i vs) v) ∙ ap (λ xs. xs ++ g v) (sym k)
