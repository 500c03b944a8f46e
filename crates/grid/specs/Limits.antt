-- The limits of a setting.
use Rattle.std.specs.Prelude.{ℕ, ◌≤◌, ℤ, pos, negsuc, ◌≤ℤ◌}
use Rattle.fault.specs.Checks.{Checks, check, done}

-- a vector has 1 to 16 places
abbrev pub InDimension : ℕ → Type 0
InDimension d = (1 ≤ d) × (d ≤ 16)

-- the knob lies between −65,536 and 65,535
abbrev pub InKnob : ℤ → Type 0
InKnob θ = (negsuc 65535 ≤ℤ θ) × (θ ≤ℤ pos 65535)

-- what is checked of a setting, in order
abbrev pub setting_checks : ℕ → ℤ → Checks
setting_checks d θ = check 1 (InDimension d) (check 2 (InKnob θ) done)
