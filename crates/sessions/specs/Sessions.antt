-- What a line does to a session, and how it is answered.
use Rattle.std.specs.Prelude.{◌≡◌, ℕ, ◌-◌, ◌^◌, ◌<◌, List, [], ◌∷◌, ◌++◌, length, ℤ, Some, None, Ok, Err, Option, Result}
use Rattle.fault.specs.declared.LineFault.{LineFault}
use Rattle.fault.specs.declared.LineFault.TheVariants.{Text, Call}
use Rattle.fault.specs.declared.SearchFault.TheVariants.{Window, Order}
use Rattle.fault.specs.Checks.{Passes, Fails}
use Rattle.fault.specs.Numbers.{window_number}
use Rattle.grid.specs.declared.parts.KeyParts.{KeyParts}
use Rattle.grid.specs.Limits.{setting_checks}
use Rattle.grid.specs.Parts.{PartsOf}
use Rattle.sessions.specs.declared.study.Study.{Study}
use Rattle.sessions.specs.declared.session.Answer.{Answer}
use Rattle.sessions.specs.declared.session.Answer.TheVariants.{Opened, Explained}
use Rattle.sessions.specs.Tallies.{Tallied}
use Rattle.sessions.specs.Commands.{OpeningLine, VectorOf, VectorFault}

-- the study has this setting, and no vectors yet
pub record Fresh (d : ℕ) (θ : ℤ) (s : Study) : Type 0 where
  pub places : s.setting.places ≡ d
  pub theta : s.setting.theta ≡ θ
  pub tally : Tallied θ [] s.tally

-- what an opening line does
abbrev pub OpenLine : List ℕ → Result Study LineFault → Type 0
OpenLine line (Ok s) = (d : ℕ) × (θ : ℤ) × OpeningLine line (Ok (d, θ)) × Passes (setting_checks d θ) × Fresh d θ s
OpenLine line (Err (Text e)) = OpeningLine line (Err e)
OpenLine line (Err (Call (Window w))) = (d : ℕ) × (θ : ℤ) × OpeningLine line (Ok (d, θ)) × Fails (setting_checks d θ) (window_number w)
OpenLine line (Err (Call (Order o))) = ⊥

-- a study has gained the vector v
pub record Gains (v : List ℕ) (s s' : Study) : Type 0 where
  pub setting : s'.setting ≡ s.setting
  pub tally : (vs : List (List ℕ)) → length vs < 2 ^ 64 - 1 → Tallied s.setting.theta vs s.tally → Tallied s.setting.theta (vs ++ v ∷ []) s'.tally

-- what a vector line does
abbrev pub ExplainLine : List ℕ → Study → Study → Result KeyParts LineFault → Type 0
ExplainLine line s s' (Ok p) = (v : List ℕ) × VectorOf s.setting.places line v × PartsOf s.setting.theta v p × Gains v s s'
ExplainLine line s s' (Err (Text e)) = VectorFault s.setting.places line e × (s' ≡ s)
ExplainLine line s s' (Err (Call c)) = ⊥

-- what a line does to a session that is not open, or has a study
abbrev pub Answered : List ℕ → Option Study → Option Study → Result Answer LineFault → Type 0
Answered line None t (Ok Opened) = (s : Study) × (t ≡ Some s) × OpenLine line (Ok s)
Answered line None t (Ok (Explained p)) = ⊥
Answered line None t (Err e) = OpenLine line (Err e) × (t ≡ None)
Answered line (Some s) t (Ok Opened) = ⊥
Answered line (Some s) t (Ok (Explained p)) = (s' : Study) × (t ≡ Some s') × ExplainLine line s s' (Ok p)
Answered line (Some s) t (Err e) = ExplainLine line s s (Err e) × (t ≡ Some s)
