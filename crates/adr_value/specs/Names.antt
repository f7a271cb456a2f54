-- Which texts are names, and the names of the payload table.
use Rattle.std.specs.Prelude.{List, [], ◌∷◌, ℕ, Bool, ◌&&◌, nat_le, length, codes, bytes_eq}
use Rattle.std.specs.List.{list_any}
use Rattle.std.specs.Str.{chars}

-- 1 to 128 characters (Unicode scalar values)
abbrev pub is_name : List ℕ → Bool
is_name text = nat_le 1 (length (chars text)) && nat_le (length (chars text)) 128

-- the names of the 34 types
abbrev pub names : List (List ℕ)
names =
    codes "SIMPLE" ∷
    codes "PRICE" ∷
    codes "CHARGE_STATE_SETPOINT" ∷
    codes "DISPATCH_SETPOINT" ∷
    codes "DISPATCH_SETPOINT_RELATIVE" ∷
    codes "CONTROL_SETPOINT" ∷
    codes "EXPORT_PRICE" ∷
    codes "GHG" ∷
    codes "CURVE" ∷
    codes "OLS" ∷
    codes "IMPORT_CAPACITY_SUBSCRIPTION" ∷
    codes "IMPORT_CAPACITY_RESERVATION" ∷
    codes "IMPORT_CAPACITY_RESERVATION_FEE" ∷
    codes "IMPORT_CAPACITY_AVAILABLE" ∷
    codes "IMPORT_CAPACITY_AVAILABLE_PRICE" ∷
    codes "EXPORT_CAPACITY_SUBSCRIPTION" ∷
    codes "EXPORT_CAPACITY_RESERVATION" ∷
    codes "EXPORT_CAPACITY_RESERVATION_FEE" ∷
    codes "EXPORT_CAPACITY_AVAILABLE" ∷
    codes "EXPORT_CAPACITY_AVAILABLE_PRICE" ∷
    codes "IMPORT_CAPACITY_LIMIT" ∷
    codes "EXPORT_CAPACITY_LIMIT" ∷
    codes "ALERT_GRID_EMERGENCY" ∷
    codes "ALERT_BLACK_START" ∷
    codes "ALERT_POSSIBLE_OUTAGE" ∷
    codes "ALERT_FLEX_ALERT" ∷
    codes "ALERT_FIRE" ∷
    codes "ALERT_FREEZING" ∷
    codes "ALERT_WIND" ∷
    codes "ALERT_TSUNAMI" ∷
    codes "ALERT_AIR_QUALITY" ∷
    codes "ALERT_OTHER" ∷
    codes "CTA2045_REBOOT" ∷
    codes "CTA2045_SET_OVERRIDE_STATUS" ∷
    []

-- the text is one of them
abbrev pub is_table_name : List ℕ → Bool
is_table_name text = list_any (bytes_eq text) names
