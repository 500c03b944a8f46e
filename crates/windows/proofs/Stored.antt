-- A window in the cells that it is copied to.
use Rattle.std.proofs.Common.{◌≡◌, ◌++◌, List, length, take, drop, sym, ap, ◌∙◌, subst, replicate, refl}
use Rattle.std.proofs.Math.Seq.{take-append_seam}
use Rattle.std.proofs.lemmas.List.{drop-replicate}
use Rattle.grid.specs.declared.parts.Edge.TheVariants.{Low, High}
use Rattle.grid.specs.declared.extremes.Extreme.{Extreme}
use Rattle.windows.specs.declared.window.Window.TheInside.{Inside as Fields}
use Rattle.windows.specs.Intervals.{Interval}
use Rattle.grid.specs.Extremes.{IsExtreme}
use Rattle.windows.specs.Ends.{far_ends}
use Rattle.windows.specs.Window.{IsWindow, intervals_of, IsHeld}

-- the cells behind a window of 16 zero intervals
abbrev pub behind : List Interval → List Interval
behind w = drop (length w) (replicate 16 (record { low = 0; high = 0 }))

pub stored : (w xs : List Interval) (x y : Extreme) → xs ≡ w → IsWindow w → IsExtreme High (far_ends High w) x → IsExtreme Low (far_ends Low w) y
    → (let a : Fields = record { intervals = xs ++ behind w; len = length w; greatest_low = x; least_high = y } in IsHeld (intervals_of a) a)
stored w xs x y same ok lows highs =
    let a : Fields = record { intervals = xs ++ behind w; len = length w; greatest_low = x; least_high = y } in
    let e : intervals_of a ≡ w = ap (λ v. take (length w) (v ++ behind w)) same ∙ take-append_seam w (behind w) in
    subst (λ v. IsHeld v a) (sym e) (record {
      window = ok;
      cells = ap (λ v. v ++ behind w) same ∙ ap (λ r. w ++ r) (drop-replicate (length w) 16 _);
      len = refl;
      lows = lows;
      highs = highs;
    })

-- the fields of an opened window hold its value
pub opened : (w : List Interval) (a : Fields) → intervals_of a ≡ w → IsHeld (intervals_of a) a → IsHeld w a
opened w a e h = subst (λ v. IsHeld v a) e h
