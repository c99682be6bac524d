-- What the proof asks of a session: that what is accepted is sound, reaches no surface twice, and is what its reply tells, if its mask names all layers.
use mathlib.Core.Path.{◌≡◌}
use mathlib.Core.Bool.{true}
use mathlib.Core.List.{List, map}
use Prim.Native.Nat.{ℕ}
use Rattle.definition.specs.Session.{Session, Pass}
use Rattle.definition.specs.Verdict.{is_accepted}
use Rattle.definition.specs.Check.{check}
use Rattle.definition.specs.Attachments.{Attached, attachments}
use Rattle.definition.specs.Pass.{attachment_reply, acceptance}
use Rattle.definition.specs.declared.Surface.{Surface}
use Rattle.definition.specs.declared.Seen.{Seen}
use Rattle.laws.specs.Surfaces.{Inside}
use Rattle.noninterference.specs.Memory.{Aspect, has_aspect, told}
use Rattle.noninterference.specs.Claim.{names_all}
use Rattle.noninterference.proofs.Plans.{planned_use, parts_of, has_part, proper}
use Rattle.laws.specs.Separate.{reaches}
use Rattle.noninterference.proofs.Passes.{All, Distinct, Named, Spreads, all_map}

-- An attachment: no DontCare; its discard names what its action reaches; its layers are that; it is inside the session; its parts are its format's aspects.
pub record Sound (S : Session) (x : Attached) : Type 0 where
  pub strict : proper x ≡ true
  pub names : Named x
  pub spreads : Spreads x
  pub inside : (s : Surface) → reaches x s ≡ true → Inside S s
  pub aspects : (s : Surface) → reaches x s ≡ true → (a : Aspect) → has_aspect S s a ≡ has_part (parts_of x) a

pub all_names : (S : Session) (xs : List Attached) → All (Sound S) xs → All Named xs
all_names S xs so = all_map (Sound S) Named (λ x h. h.names) xs so

pub all_spreads : (S : Session) (xs : List Attached) → All (Sound S) xs → All Spreads xs
all_spreads S xs so = all_map (Sound S) Spreads (λ x h. h.spreads) xs so

-- A session: of each accepted pass, sound attachments, no surface reached twice, and a reply that tells what the attachments do,
-- if the mask names all their layers.
pub record Fit (S : Session) : Type 0 where
  pub sound : (p : Pass) → is_accepted (check S p).verdict ≡ true → All (Sound S) (attachments S p)
  pub distinct : (p : Pass) → is_accepted (check S p).verdict ≡ true → Distinct (attachments S p)
  pub tells : (p : Pass) → is_accepted (check S p).verdict ≡ true → names_all S p.mask (map (attachment_reply S) (attachments S p)) ≡ true → (n : ℕ) (q : Seen) (c : List Surface)
      → told S n p (acceptance S q (attachments S p) c) ≡ record { number = n; uses = map planned_use (attachments S p); clears = c }
