-- Those that stay are kept by a compaction, or by none where none leaves; what the plans list comes behind them.
use Rattle.std.proofs.Common.{refl, sym, ◌∙◌, arith, drop}
use Rattle.definition.specs.Sizes.{surface_bytes, count_bytes}
use Rattle.laws.specs.Plans.{staying_all, listed_all}
use Rattle.laws.proofs.Records.{append_count}
use Rattle.lists.specs.Lists.{count_in, surface_of}
use Rattle.memory_init.specs.Plans.{plans_in}
use Rattle.discard_list.specs.Discards.{Keeps}
use Rattle.discard_list.proofs.Discards.{keeps_as, keeps_all, keeps_count, keeps_becomes}
use Rattle.discard_list.proofs.record_discards.Goals as goal
use Rattle.discard_list.proofs.record_discards.Goals.{Joined-leaving-eq0, then-leaving-eq0, else-leaving-eq0}

-- What is kept where both ways meet.
met : (c : Joined-leaving-eq0)
    → Keeps (staying_all (plans_in c.args.plans.now)) (count_in c.args.discards.now) c.if-leaving-eq0.kept (drop count_bytes c.args.discards.now) (drop count_bytes c.if-leaving-eq0.discards)
met c =
    let b = c.args.discards.now in
    let none = keeps_all (plans_in c.args.plans.now) (count_in b) (drop count_bytes b) in
    elim c.if-leaving-eq0.branch [
      | then-leaving-eq0 w ↦ keeps_as refl (w.kept-is ∙ c.count-n.ensures) w.discards-is (none (sym c.requires.counted ∙ w.if-leaving-eq0.true))
      | else-leaving-eq0 w ↦ keeps_as c.count-n.ensures w.kept-is w.discards-is w.retain_all-kept.ensures
    ]

pub list_all-end-requires-clause-listed_inside : goal.list_all-end-requires-clause-listed_inside
list_all-end-requires-clause-listed_inside c =
    omega (arith, c.requires.room.bytes, keeps_count c.args.discards.now (met (goal.at.list_all-end-requires-clause-listed_inside c).Joined-leaving-eq0) (listed_all (plans_in c.args.plans.now)))

pub set_count-requires : goal.set_count-requires
set_count-requires c =
    let ys = listed_all (plans_in c.args.plans.now) in (
      omega (arith, c.requires.held.long),
      omega (arith, append_count surface_bytes surface_of _ _ ys _ _ c.list_all-end.ensures, keeps_count c.args.discards.now (met (goal.at.set_count-requires c).Joined-leaving-eq0) ys, c.requires.room.small),
    )

pub returns : goal.returns
returns c = keeps_becomes c.args.discards.now (met (goal.at.returns c).Joined-leaving-eq0) (listed_all (plans_in c.args.plans.now)) c.list_all-end.ensures c.set_count.ensures
