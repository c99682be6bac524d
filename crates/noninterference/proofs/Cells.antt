-- Two memories through one pass: it loads equal values where they agree on what it loads, and a settled aspect shows nothing of either.
use mathlib.Core.Path.{◌≡◌, refl, sym, ap, ap₂, ◌∙◌}
use mathlib.Core.Bool.{true, false}
use mathlib.Core.List.{List, [], ◌∷◌, ◌++◌, map}
use mathlib.Core.Option.{Option, none, some}
use Prim.Native.Nat.{ℕ}
use Rattle.definition.specs.Surfaces.{same, elem, layers_of}
use Rattle.definition.specs.Session.{Session}
use Rattle.definition.specs.Attachments.{Attached, range_in, divergent_of}
use Rattle.definition.specs.declared.Surface.{Surface}
use Rattle.laws.proofs.Tests.{clash, or_on_left, or_on_right, cond_agree}
use Rattle.laws.proofs.Surfaces.{same_refl}
use Rattle.noninterference.specs.Memory.{Aspect, color_aspect, depth_aspect, stencil_aspect, same_aspect, has_aspect, Input, shows, clears, nothing, Part, Use, Told, Cells, Drawing, use_at, part_at, is_divergent, part_value, part_values, layer_values, values, sees, part_after, cell_after, run, runs, shown}
use Rattle.noninterference.specs.Claim.{Agree, later, last_use}
use Rattle.noninterference.proofs.Plans.{planned_use, parts_of, has_part, is_load, any_load, kept_part, settled}
use Rattle.laws.specs.Separate.{reaches}
use Rattle.noninterference.proofs.Passes.{All}
use Rattle.noninterference.proofs.Sound.{Sound}

aspect_refl : (a : Aspect) → same_aspect a a ≡ true
aspect_refl color_aspect = refl
aspect_refl depth_aspect = refl
aspect_refl stencil_aspect = refl

module _ {Val : Type 0} (D : Drawing Val) where
  -- ── what a pass loads

  value_eq : (i : Input) (a : Aspect) (v w : Val) → (is_load i ≡ true → v ≡ w) → part_value D i a v ≡ part_value D i a w
  value_eq shows a v w h = ap (λ x. x ∷ []) (h refl)
  value_eq (clears c) a v w h = refl
  value_eq nothing a v w h = refl

  parts_eq : (S : Session) (qs : List Part) (s : Surface) (m n : Cells Val) → ((a : Aspect) → has_part qs a ≡ true → has_aspect S s a ≡ true)
      → (any_load qs ≡ true → Agree S s m n) → part_values D qs s m ≡ part_values D qs s n
  parts_eq S [] s m n has ag = refl
  parts_eq S (q ∷ qs) s m n has ag =
      ap₂ ◌++◌
      (value_eq q.input q.aspect (m s q.aspect) (n s q.aspect)
      (λ e. ag (or_on_left (is_load q.input) (any_load qs) e) q.aspect (has q.aspect (or_on_left (same_aspect q.aspect q.aspect) (has_part qs q.aspect) (aspect_refl q.aspect)))))
      (parts_eq S qs s m n (λ a e. has a (or_on_right (same_aspect a q.aspect) _ e)) (λ e. ag (or_on_right (is_load q.input) _ e)))

  layers_eq : (S : Session) (qs : List Part) (ss : List Surface) (m n : Cells Val)
      → ((s : Surface) → elem s ss ≡ true → (a : Aspect) → has_part qs a ≡ true → has_aspect S s a ≡ true)
      → ((s : Surface) → elem s ss ≡ true → any_load qs ≡ true → Agree S s m n) → layer_values D qs ss m ≡ layer_values D qs ss n
  layers_eq S qs [] m n has ag = refl
  layers_eq S qs (s ∷ ss) m n has ag =
      ap₂ ◌++◌
      (parts_eq S qs s m n (has s (or_on_left (same s s) (elem s ss) (same_refl s))) (ag s (or_on_left (same s s) (elem s ss) (same_refl s))))
      (layers_eq S qs ss m n (λ t e. has t (or_on_right (same t s) _ e)) (λ t e. ag t (or_on_right (same t s) _ e)))

  pub values_eq : (S : Session) (xs : List Attached) (m n : Cells Val) → All (Sound S) xs
      → All (λ x. (s : Surface) → reaches x s ≡ true → any_load (parts_of x) ≡ true → Agree S s m n) xs
      → values D (map planned_use xs) m ≡ values D (map planned_use xs) n
  values_eq S [] m n so ag = refl
  values_eq S (x ∷ xs) m n so ag =
      ap₂ ◌++◌
      (layers_eq S (parts_of x) (layers_of (range_in x)) m n
      (λ s e a f. so.0.aspects s (sym (so.0.spreads s) ∙ e) a ∙ f)
      (λ s e. ag.0 s (sym (so.0.spreads s) ∙ e)))
      (values_eq S xs m n so.1 ag.1)

  -- ── a settled aspect

  kept_part_lem : (q : Option Part) → kept_part q ≡ true → (o o' n n' l l' : Val) → n ≡ n' → part_after D q o n l ≡ part_after D q o' n' l'
  kept_part_lem none h o o' n n' l l' e = clash {b = false} h refl
  kept_part_lem (some q) h o o' n n' l l' e = rw h e

  pub settled_cell : (x : Attached) (a : Aspect) → settled x a ≡ true → (o o' n n' l l' : Val) → n ≡ n'
      → cell_after D (some (planned_use x)) a o n l ≡ cell_after D (some (planned_use x)) a o' n' l'
  settled_cell x a h o o' n n' l l' e =
      cond_agree (is_divergent (divergent_of x) a) D.nil _ _ (λ off. kept_part_lem (part_at (parts_of x) a) (rw off at h) o o' n n' l l' e)

  -- ── one pass more

  pub runs_snoc : (left : ℕ → Cells Val) (ws : List Told) (w : Told) (m : Cells Val) → runs D left (ws ++ (w ∷ [])) m ≡ run D left w (runs D left ws m)
  runs_snoc left [] w m = refl
  runs_snoc left (v ∷ ws) w m = runs_snoc left ws w (run D left v m)

  pub shown_snoc : (left : ℕ → Cells Val) (ws : List Told) (w : Told) (m : Cells Val)
      → shown D left (ws ++ (w ∷ [])) m ≡ shown D left ws m ++ (sees D w (runs D left ws m) ∷ [])
  shown_snoc left [] w m = refl
  shown_snoc left (v ∷ ws) w m = ap (λ l. sees D v m ∷ l) (shown_snoc left ws w (run D left v m))

pub last_append : (o : Option Use) (hs ws : List Told) (s : Surface) → last_use o (hs ++ ws) s ≡ last_use (last_use o hs s) ws s
last_append o [] ws s = refl
last_append o (h ∷ hs) ws s = last_append (later (use_at s h.uses) o) hs ws s
