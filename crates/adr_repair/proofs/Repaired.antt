-- A repair inside the windows alone.
use Rattle.std.proofs.Common.{◌≡◌, ℕ, ℤ, Bool, true, false, ◌&&◌, ◌||◌, cond, if◌then◌else◌, List, [], ◌∷◌, map, refl, ap, sym, filter}
use Rattle.std.specs.List.{list_any}
use Rattle.std.specs.Str.{bytes_eq}
use Rattle.adr_value.specs.Same.{same_type}
use Rattle.adr_value.specs.declared.payload.PayloadType.{PayloadType}
use Rattle.adr_time.specs.Spans.{covers}
use Rattle.adr_model.specs.declared.touch.Touch.{Touch}
use Rattle.adr_model.specs.declared.entry.Tie.{Tie}
use Rattle.adr_model.specs.Governor.{governs}
use Rattle.adr_model.specs.Touches.{touches}
use Rattle.adr_repair.specs.Laws.{RepairsAll, AtEachEdit}
use Rattle.adr_repair.specs.Windows.{is_touched, is_window_at, windows_of, any_covers}
use Rattle.adr_repair.proofs.Laws.{governor_stays}

-- the two ways to say that a window covers the instant
pub windows_cover : (id : List ℕ) (kind : PayloadType) (t : ℤ) (ts : List Touch) → any_covers (windows_of id kind ts) t ≡ list_any (is_window_at id kind t) ts
windows_cover id kind t [] = refl
windows_cover id kind t (x ∷ xs) = by (bytes_eq id x.resource) (same_type x.kind kind) (windows_cover id kind t xs)
  where
    by : (a b : Bool) → any_covers (windows_of id kind xs) t ≡ list_any (is_window_at id kind t) xs
        → any_covers (map (λ y. y.window) (cond (a && b) (x ∷ filter (λ y. bytes_eq id y.resource && same_type y.kind kind) xs) (filter (λ y. bytes_eq id y.resource && same_type y.kind kind) xs))) t
        ≡ ((a && (b && covers x.window t)) || list_any (is_window_at id kind t) xs)
    by false b rest = rest
    by true false rest = rest
    by true true rest = ap (λ (r : Bool). covers x.window t || r) rest

pub repairs_all : (tie : Tie) → AtEachEdit (RepairsAll tie)
repairs_all tie l full old new edit w e id kind t =
    by (any_covers (windows_of id kind (touches old new)) t) (sym (windows_cover id kind t (touches old new)))
  where
    by : (b : Bool) → is_touched old new id kind t ≡ b → (if b then governs tie new id kind t else governs tie old id kind t) ≡ governs tie new id kind t
    by true h = refl
    by false h = governor_stays tie l full old new edit w e id kind t h
