-- What the answers of a reader stand for that goes on while IDs rise: where one falls, nothing is said of what was read.
use Rattle.std.specs.Prelude.{ℕ, ◌^◌, ◌≤◌, ◌<◌, ◌≡◌}
use Rattle.format.specs.Parsed.{Parsed, done}
use Rattle.fields.specs.declared.RisingId.{RisingId}
use Rattle.fields.specs.declared.RisingElement.{RisingElement}
use Rattle.fields.specs.declared.RisingCount.{RisingCount}
use Rattle.fields.specs.Views.{Element, refused_by, count_parsed}

-- An ID of so many bytes is what p reads, and not below the bound.
abbrev pub IdTold : ℕ → ℕ → RisingId → Parsed ℕ → Type 0
IdTold width bound (RisingId.Id i next) p = (done i next ≡ p) × (bound ≤ i) × (i < 256 ^ width)
IdTold width bound (RisingId.Refused r) p = refused_by r ≡ p
IdTold width bound RisingId.Falls p = Unit {0}

-- A register or a node is what p reads, and its ID is not below the bound.
abbrev pub ElementTold : ℕ → RisingElement → Parsed Element → Type 0
ElementTold bound (RisingElement.Element i n next) p = ◌≡◌ {A = Parsed Element} (done (record { id = i; instances = n }) next) p × (bound ≤ i) × (i < 256 ^ 3)
ElementTold bound (RisingElement.Refused r) p = refused_by r ≡ p
ElementTold bound RisingElement.Falls p = Unit {0}

abbrev pub CountTold : RisingCount → Parsed ℕ → Type 0
CountTold (RisingCount.Read c) p = count_parsed c ≡ p
CountTold RisingCount.Falls p = Unit {0}

-- One thing holds where no ID fell, and another where one did.
abbrev pub ElementUnless : RisingElement → Type 0 → Type 0 → Type 0
ElementUnless (RisingElement.Element i n next) rose fell = rose
ElementUnless (RisingElement.Refused r) rose fell = rose
ElementUnless RisingElement.Falls rose fell = fell

abbrev pub CountUnless : RisingCount → Type 0 → Type 0 → Type 0
CountUnless (RisingCount.Read c) rose fell = rose
CountUnless RisingCount.Falls rose fell = fell
