-- How long ways are in one measure.
use Rattle.std.specs.Prelude.{◌≡◌, ℕ, ◌+◌, ◌<◌, ◌≤◌, ◌==◌, if◌then◌else◌, List, length, Option, Some, None, IfSome, Vec, slice_index, slice_index_or}
use Rattle.std.specs.Global.{Global}
use Rattle.std.specs.FinMap as map
use Rattle.vs_instance.specs.declared.way.Way.{Way}
use Rattle.vs_instance.specs.declared.lengths.Measure.{Measure}
use Rattle.vs_instance.specs.declared.lengths.Measure.TheVariants.{Minutes, Metres}
use Rattle.vs_instance.specs.declared.lengths.TheConstants.{FAR}
use Rattle.vs_instance.specs.declared.limits.TheConstants.{MAX_MINUTES, MAX_METRES}
use Rattle.vs_instance.specs.deadheads.WayMap.{WayMap}

abbrev pub measured : Measure → Way → ℕ
measured Minutes w = w.minutes
measured Metres w = w.metres

abbrev pub far_without : Measure → Option Way → ℕ
far_without measure (Some w) = measured measure w
far_without measure None = FAR

-- how long it is from stop k to stop s by this deadhead
abbrev pub length_by : Measure → ℕ → ℕ → Option Way → ℕ
length_by measure k s way = if k == s then 0 else far_without measure way

-- how long it is from stop k to stop s
abbrev pub length_of : Measure → WayMap → ℕ → ℕ → ℕ
length_of measure ways k s = length_by measure k s (map.get ways.given (k, s))

-- how long it is from stop k to each stop
pub record IsRow (measure : Measure) (ways : WayMap) (k : ℕ) (row : List ℕ) : Type 0 where
  pub count : length row ≡ ways.stops
  pub each : (s : ℕ) → s < ways.stops → slice_index row s ≡ length_of measure ways k s

pub record AreRows (measure : Measure) (ways : WayMap) (rows : List (Vec ℕ Global)) : Type 0 where
  pub count : length rows ≡ ways.stops
  pub each : (k : ℕ) (d : Vec ℕ Global) → k < ways.stops → IsRow measure ways k (slice_index_or rows k d).items

-- to no stop it is longer directly than first so far and then onward
pub record IsNowhereLonger (first : ℕ) (onward direct : List ℕ) : Type 0 where
  pub at : (t : ℕ) → t < length direct → slice_index direct t ≤ first + slice_index onward t

-- to no stop it is longer directly than by a stop of these rows
pub record IsClosedFrom (rows : List (Vec ℕ Global)) (direct : List ℕ) : Type 0 where
  pub by : (s : ℕ) (d : Vec ℕ Global) → s < length rows
      → IsNowhereLonger (slice_index direct s) (slice_index_or rows s d).items direct

pub record AreClosed (rows : List (Vec ℕ Global)) : Type 0 where
  pub from : (k : ℕ) (d : Vec ℕ Global) → k < length rows → IsClosedFrom rows (slice_index_or rows k d).items

-- from no stop to another it is longer directly than by a third
pub record IsClosedIn (measure : Measure) (ways : WayMap) : Type 0 where
  pub at : (k s t : ℕ) → k < ways.stops → s < ways.stops → t < ways.stops
      → length_of measure ways k t ≤ length_of measure ways k s + length_of measure ways s t

-- no deadhead is longer than the limits
pub record AreShort (ways : WayMap) : Type 0 where
  pub each : (k s : ℕ) → IfSome (map.get ways.given (k, s)) (λ w. (w.minutes ≤ MAX_MINUTES) × (w.metres ≤ MAX_METRES))
