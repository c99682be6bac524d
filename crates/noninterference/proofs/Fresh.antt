-- A fresh state: each surface has its byte, and that is 0. The definition's own is fresh for a session of at most `max_surfaces` surfaces.
use mathlib.Core.Path.{◌≡◌, refl, sym, ap, ◌∙◌}
use mathlib.Core.Bool.{true}
use mathlib.Core.List.{List, [], ◌∷◌}
use Prim.Native.Nat.{ℕ, zero, suc, ◌≤◌}
use native.Mathlib.Omega.{arith}
use lib.ListN.{length, take, get_or, replicate}
use lib.Seq.{get_or-take}
use Rattle.definition.specs.Sizes.{max_surfaces}
use Rattle.definition.specs.Session.{Session, surface_count, surface_index, surfaces_of}
use Rattle.definition.specs.Calls.{State, fresh, bytes_valid}
use Rattle.definition.specs.declared.Surface.{Surface}
use Rattle.laws.specs.Surfaces.{Inside}
use Rattle.laws.proofs.Places.{surfaces_counted, place_counted}
use Rattle.laws.proofs.Submission.{bytes_long, bytes_fresh}
use Rattle.noninterference.specs.Memory.{byte_of}
use Rattle.noninterference.specs.Claim.{Fresh}

zero_byte : (n i : ℕ) → ◌≡◌ {A = ℕ} (get_or (replicate n 0) i 0) 0
zero_byte zero i = refl
zero_byte (suc n) zero = refl
zero_byte (suc n) (suc i) = zero_byte n i

-- Number 6 looks at the first n bytes alone.
taken_valid : (n : ℕ) (bs : List ℕ) → bytes_valid n (take n bs) ≡ bytes_valid n bs
taken_valid zero bs = refl
taken_valid (suc n) [] = refl
taken_valid (suc n) (b ∷ bs) = rw (taken_valid n bs)

-- The first n of at least n zeros.
take_zeros : (n m : ℕ) → n ≤ m → ◌≡◌ {A = List ℕ} (take n (replicate m 0)) (replicate n 0)
take_zeros zero m h = refl
take_zeros (suc n) zero h = absurd (omega arith)
take_zeros (suc n) (suc m) h = ap (λ l. 0 ∷ l) (take_zeros n m (omega arith))

module _ (S : Session) where
  module _ (σ : State) (h : Fresh S σ) where
    pub fresh_byte : (s : Surface) → Inside S s → byte_of S σ.status s ≡ 0
    fresh_byte s ok =
        sym (get_or-take (surface_count S) σ.status (surface_index S s) 0 (place_counted S s ok))
        ∙ ap (λ l. get_or l (surface_index S s) 0) h.status
        ∙ zero_byte (surface_count S) (surface_index S s)

    pub fresh_valid : bytes_valid (length (surfaces_of S)) σ.status ≡ true
    fresh_valid =
        ap (λ n. bytes_valid n σ.status) (surfaces_counted S)
        ∙ sym (taken_valid (surface_count S) σ.status)
        ∙ ap (bytes_valid (surface_count S)) h.status
        ∙ bytes_fresh (surface_count S) (surface_count S) (omega arith)

    pub fresh_long : length (surfaces_of S) ≤ length σ.status
    fresh_long = bytes_long (length (surfaces_of S)) σ.status fresh_valid

  pub fresh_is : surface_count S ≤ max_surfaces → Fresh S fresh
  fresh_is room = record { lists = refl; status = take_zeros (surface_count S) max_surfaces room }
