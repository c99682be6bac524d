-- What the attachments of a pass do to the lists.
use Rattle.std.specs.Prelude.{◌≤◌, ◌≡◌, List, map, length, take}
use Rattle.definition.specs.Sizes.{max_attachments}
use Rattle.definition.specs.Attachments.{Attached}
use Rattle.laws.specs.Plans.{plan_of}
use Rattle.memory_init.specs.Plans.{plans_in}
use Rattle.attachments.specs.declared.resolve.Plans.{Plans}

-- The array is whole, and has the plans that the count names.
pub record Whole (ps : Plans) : Type 0 where
  pub planned : length ps.planned ≡ max_attachments
  pub count : ps.count ≤ max_attachments

-- ps is what the attachments xs do to the lists.
pub record PlansOf (xs : List Attached) (ps : Plans) : Type 0 where
  pub plans : plans_in (take ps.count ps.planned) ≡ map plan_of xs
  pub whole : Whole ps
