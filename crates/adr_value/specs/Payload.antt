-- The table of payload types.
use Rattle.std.specs.Prelude.{Result, Ok, Err, if◌then◌else◌, ℕ, ◌==◌, List, [], ◌∷◌, ◌++◌, Option, Some, option_map, unwrap_or, codes, find, bytes_eq, ◌≡◌, ◌<◌, map, All, false}
use Rattle.adr_value.specs.Names.{is_name}
use Rattle.adr_refusal.specs.declared.refusal.Refusal.{Refusal}
use Rattle.adr_refusal.specs.declared.refusal.Refusal.TheVariants.{BadText}
use Rattle.adr_value.specs.declared.payload.Shape.{Shape}
use Rattle.adr_value.specs.declared.payload.Shape.TheVariants.{Whole, Amount, Points, Notes, Any}
use Rattle.adr_value.specs.declared.payload.PayloadType.{PayloadType}
use Rattle.adr_value.specs.declared.payload.PayloadType.TheVariants.{Simple, Price, ChargeStateSetpoint, DispatchSetpoint, DispatchSetpointRelative, ControlSetpoint, ExportPrice, Ghg, Curve, Ols, ImportCapacitySubscription, ImportCapacityReservation, ImportCapacityReservationFee, ImportCapacityAvailable, ImportCapacityAvailablePrice, ExportCapacitySubscription, ExportCapacityReservation, ExportCapacityReservationFee, ExportCapacityAvailable, ExportCapacityAvailablePrice, ImportCapacityLimit, ExportCapacityLimit, AlertGridEmergency, AlertBlackStart, AlertPossibleOutage, AlertFlexAlert, AlertFire, AlertFreezing, AlertWind, AlertTsunami, AlertAirQuality, AlertOther, Cta2045Reboot, Cta2045SetOverrideStatus, Private}

-- a type with its place, its name and the shape of its values
pub record Row : Type 0 where
  pub case : PayloadType
  pub code : ℕ
  pub name : List ℕ
  pub shape : Shape

abbrev pub row : PayloadType → ℕ → List ℕ → Shape → Row
row p c n s = record { case = p; code = c; name = n; shape = s }

-- the 34 types of the profile, in three parts
abbrev pub signals : List Row
signals =
    row Simple 0 (codes "SIMPLE") Whole ∷
    row Price 1 (codes "PRICE") Amount ∷
    row ChargeStateSetpoint 2 (codes "CHARGE_STATE_SETPOINT") Amount ∷
    row DispatchSetpoint 3 (codes "DISPATCH_SETPOINT") Amount ∷
    row DispatchSetpointRelative 4 (codes "DISPATCH_SETPOINT_RELATIVE") Amount ∷
    row ControlSetpoint 5 (codes "CONTROL_SETPOINT") Amount ∷
    row ExportPrice 6 (codes "EXPORT_PRICE") Amount ∷
    row Ghg 7 (codes "GHG") Amount ∷
    row Curve 8 (codes "CURVE") Points ∷
    row Ols 9 (codes "OLS") Amount ∷
    []

abbrev pub capacities : List Row
capacities =
    row ImportCapacitySubscription 10 (codes "IMPORT_CAPACITY_SUBSCRIPTION") Amount ∷
    row ImportCapacityReservation 11 (codes "IMPORT_CAPACITY_RESERVATION") Amount ∷
    row ImportCapacityReservationFee 12 (codes "IMPORT_CAPACITY_RESERVATION_FEE") Amount ∷
    row ImportCapacityAvailable 13 (codes "IMPORT_CAPACITY_AVAILABLE") Amount ∷
    row ImportCapacityAvailablePrice 14 (codes "IMPORT_CAPACITY_AVAILABLE_PRICE") Amount ∷
    row ExportCapacitySubscription 15 (codes "EXPORT_CAPACITY_SUBSCRIPTION") Amount ∷
    row ExportCapacityReservation 16 (codes "EXPORT_CAPACITY_RESERVATION") Amount ∷
    row ExportCapacityReservationFee 17 (codes "EXPORT_CAPACITY_RESERVATION_FEE") Amount ∷
    row ExportCapacityAvailable 18 (codes "EXPORT_CAPACITY_AVAILABLE") Amount ∷
    row ExportCapacityAvailablePrice 19 (codes "EXPORT_CAPACITY_AVAILABLE_PRICE") Amount ∷
    row ImportCapacityLimit 20 (codes "IMPORT_CAPACITY_LIMIT") Amount ∷
    row ExportCapacityLimit 21 (codes "EXPORT_CAPACITY_LIMIT") Amount ∷
    []

abbrev pub alerts : List Row
alerts =
    row AlertGridEmergency 22 (codes "ALERT_GRID_EMERGENCY") Notes ∷
    row AlertBlackStart 23 (codes "ALERT_BLACK_START") Notes ∷
    row AlertPossibleOutage 24 (codes "ALERT_POSSIBLE_OUTAGE") Notes ∷
    row AlertFlexAlert 25 (codes "ALERT_FLEX_ALERT") Notes ∷
    row AlertFire 26 (codes "ALERT_FIRE") Notes ∷
    row AlertFreezing 27 (codes "ALERT_FREEZING") Notes ∷
    row AlertWind 28 (codes "ALERT_WIND") Notes ∷
    row AlertTsunami 29 (codes "ALERT_TSUNAMI") Notes ∷
    row AlertAirQuality 30 (codes "ALERT_AIR_QUALITY") Notes ∷
    row AlertOther 31 (codes "ALERT_OTHER") Notes ∷
    row Cta2045Reboot 32 (codes "CTA2045_REBOOT") Any ∷
    row Cta2045SetOverrideStatus 33 (codes "CTA2045_SET_OVERRIDE_STATUS") Any ∷
    []

abbrev pub table : List Row
table = signals ++ capacities ++ alerts

-- the type of the first of some rows that has a name
abbrev pub type_in : List Row → List ℕ → Option PayloadType
type_in rows text = option_map (λ r. r.case) (find (λ r. bytes_eq text r.name) rows)

-- the type of a name: that of its row, or a private one
abbrev pub type_of : List ℕ → PayloadType
type_of text = unwrap_or (type_in table text) (Private text)

-- a name has 1 to 128 characters
abbrev pub type_named : List ℕ → Result PayloadType Refusal
type_named text = if is_name text then Ok (type_of text) else Err BadText

-- the type at a place of the table
abbrev pub of_code : ℕ → Option PayloadType
of_code code = option_map (λ r. r.case) (find (λ r. code == r.code) table)

-- the place of a type, or 34 for a private one
abbrev pub code_of : PayloadType → ℕ
code_of Simple = 0
code_of Price = 1
code_of ChargeStateSetpoint = 2
code_of DispatchSetpoint = 3
code_of DispatchSetpointRelative = 4
code_of ControlSetpoint = 5
code_of ExportPrice = 6
code_of Ghg = 7
code_of Curve = 8
code_of Ols = 9
code_of ImportCapacitySubscription = 10
code_of ImportCapacityReservation = 11
code_of ImportCapacityReservationFee = 12
code_of ImportCapacityAvailable = 13
code_of ImportCapacityAvailablePrice = 14
code_of ExportCapacitySubscription = 15
code_of ExportCapacityReservation = 16
code_of ExportCapacityReservationFee = 17
code_of ExportCapacityAvailable = 18
code_of ExportCapacityAvailablePrice = 19
code_of ImportCapacityLimit = 20
code_of ExportCapacityLimit = 21
code_of AlertGridEmergency = 22
code_of AlertBlackStart = 23
code_of AlertPossibleOutage = 24
code_of AlertFlexAlert = 25
code_of AlertFire = 26
code_of AlertFreezing = 27
code_of AlertWind = 28
code_of AlertTsunami = 29
code_of AlertAirQuality = 30
code_of AlertOther = 31
code_of Cta2045Reboot = 32
code_of Cta2045SetOverrideStatus = 33
code_of (Private text) = 34

-- the name of a type
abbrev pub name_of : PayloadType → List ℕ
name_of Simple = codes "SIMPLE"
name_of Price = codes "PRICE"
name_of ChargeStateSetpoint = codes "CHARGE_STATE_SETPOINT"
name_of DispatchSetpoint = codes "DISPATCH_SETPOINT"
name_of DispatchSetpointRelative = codes "DISPATCH_SETPOINT_RELATIVE"
name_of ControlSetpoint = codes "CONTROL_SETPOINT"
name_of ExportPrice = codes "EXPORT_PRICE"
name_of Ghg = codes "GHG"
name_of Curve = codes "CURVE"
name_of Ols = codes "OLS"
name_of ImportCapacitySubscription = codes "IMPORT_CAPACITY_SUBSCRIPTION"
name_of ImportCapacityReservation = codes "IMPORT_CAPACITY_RESERVATION"
name_of ImportCapacityReservationFee = codes "IMPORT_CAPACITY_RESERVATION_FEE"
name_of ImportCapacityAvailable = codes "IMPORT_CAPACITY_AVAILABLE"
name_of ImportCapacityAvailablePrice = codes "IMPORT_CAPACITY_AVAILABLE_PRICE"
name_of ExportCapacitySubscription = codes "EXPORT_CAPACITY_SUBSCRIPTION"
name_of ExportCapacityReservation = codes "EXPORT_CAPACITY_RESERVATION"
name_of ExportCapacityReservationFee = codes "EXPORT_CAPACITY_RESERVATION_FEE"
name_of ExportCapacityAvailable = codes "EXPORT_CAPACITY_AVAILABLE"
name_of ExportCapacityAvailablePrice = codes "EXPORT_CAPACITY_AVAILABLE_PRICE"
name_of ImportCapacityLimit = codes "IMPORT_CAPACITY_LIMIT"
name_of ExportCapacityLimit = codes "EXPORT_CAPACITY_LIMIT"
name_of AlertGridEmergency = codes "ALERT_GRID_EMERGENCY"
name_of AlertBlackStart = codes "ALERT_BLACK_START"
name_of AlertPossibleOutage = codes "ALERT_POSSIBLE_OUTAGE"
name_of AlertFlexAlert = codes "ALERT_FLEX_ALERT"
name_of AlertFire = codes "ALERT_FIRE"
name_of AlertFreezing = codes "ALERT_FREEZING"
name_of AlertWind = codes "ALERT_WIND"
name_of AlertTsunami = codes "ALERT_TSUNAMI"
name_of AlertAirQuality = codes "ALERT_AIR_QUALITY"
name_of AlertOther = codes "ALERT_OTHER"
name_of Cta2045Reboot = codes "CTA2045_REBOOT"
name_of Cta2045SetOverrideStatus = codes "CTA2045_SET_OVERRIDE_STATUS"
name_of (Private text) = text

-- what a type's values must be: anything, for a private one
abbrev pub shape_of : PayloadType → Shape
shape_of Simple = Whole
shape_of Price = Amount
shape_of ChargeStateSetpoint = Amount
shape_of DispatchSetpoint = Amount
shape_of DispatchSetpointRelative = Amount
shape_of ControlSetpoint = Amount
shape_of ExportPrice = Amount
shape_of Ghg = Amount
shape_of Curve = Points
shape_of Ols = Amount
shape_of ImportCapacitySubscription = Amount
shape_of ImportCapacityReservation = Amount
shape_of ImportCapacityReservationFee = Amount
shape_of ImportCapacityAvailable = Amount
shape_of ImportCapacityAvailablePrice = Amount
shape_of ExportCapacitySubscription = Amount
shape_of ExportCapacityReservation = Amount
shape_of ExportCapacityReservationFee = Amount
shape_of ExportCapacityAvailable = Amount
shape_of ExportCapacityAvailablePrice = Amount
shape_of ImportCapacityLimit = Amount
shape_of ExportCapacityLimit = Amount
shape_of AlertGridEmergency = Notes
shape_of AlertBlackStart = Notes
shape_of AlertPossibleOutage = Notes
shape_of AlertFlexAlert = Notes
shape_of AlertFire = Notes
shape_of AlertFreezing = Notes
shape_of AlertWind = Notes
shape_of AlertTsunami = Notes
shape_of AlertAirQuality = Notes
shape_of AlertOther = Notes
shape_of Cta2045Reboot = Any
shape_of Cta2045SetOverrideStatus = Any
shape_of (Private text) = Any

-- the row that the functions give for the type of a row
abbrev pub row_again : Row → Row
row_again r = row r.case (code_of r.case) (name_of r.case) (shape_of r.case)

-- ---- the laws of the table

-- the functions by cases agree with the table, row by row
abbrev pub RowsAgree : Type 0
RowsAgree = map row_again table ≡ table

-- the type of a name has that name
abbrev pub NamesReturn : Type 0
NamesReturn = (x : List ℕ) → name_of (type_of x) ≡ x

-- the code of a type of the table gives back the type
abbrev pub CodesReturn : Type 0
CodesReturn = (p : PayloadType) → code_of p < 34 → of_code (code_of p) ≡ Some p

-- a private type that a name gives has none of the table's names
abbrev pub PrivateNamesDiffer : Type 0
PrivateNamesDiffer = (x t : List ℕ) → type_of x ≡ Private t → All (λ r. bytes_eq x r.name ≡ false) table
