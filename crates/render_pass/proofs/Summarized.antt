-- What is said of a pass of a whole session, by what refuses it.
use Prim.Native.Nat.{ℕ, ◌+◌, ◌≤◌}
use native.Mathlib.Omega.{arith}
use mathlib.Core.Path.{◌≡◌, sym, ap, subst, ◌∙◌}
use mathlib.Core.Bool.{true, false}
use mathlib.Core.List.{List, [], ◌++◌, map}
use lib.ListN.{length, replicate, length-append}
use lib.ListN.{length-replicate}
use Rattle.definition.specs.Sizes.{max_discards, surface_bytes}
use Rattle.definition.specs.Session.{Pass, Session}
use Rattle.definition.specs.Surfaces.{range_at}
use Rattle.definition.specs.Verdict.{accepted, is_accepted}
use Rattle.definition.specs.Check.{check}
use Rattle.definition.specs.MemoryInit.{Lists}
use Rattle.definition.specs.Attachments.{attach_all, attachments}
use Rattle.definition.specs.Pass.{new_pass, room_verdict, accepted_pass, refused_pass, check_pass}
use Rattle.definition.specs.declared.Seen.{Seen}
use Rattle.definition.specs.declared.Action.{Action}
use Rattle.definition.specs.declared.Verdict.{Verdict}
use Rattle.definition.specs.declared.MemoryInitKind.TheVariants.{ImplicitlyInitialized}
use Rattle.laws.specs.Plans.{Plan, plan_of, staying_all, added_all, listed_all, together}
use Rattle.noninterference.proofs.Accepted.{pass_separate}
use Rattle.lists.specs.Lists.{surface_of, surfaces_in, SurfacesBecome}
use Rattle.lists.proofs.Lists.{list_length, becomes_count}
use Rattle.memory_init.specs.declared.tally.Tally.{Tally}
use Rattle.memory_init.specs.Tally.{TallyOf}
use Rattle.discard_list.specs.Discards.{LentDiscards}
use Rattle.render_pass.specs.declared.summary.PassSummary.{PassSummary}
use Rattle.render_pass.specs.Outcome.{room_by}
use Rattle.render_pass.specs.Summary.{refused_summary, summary, StandFor, Summarizable, Summarized}
use Rattle.render_pass.proofs.Outcome.{few_layered, room_told, few_actions, few_discards, few_returned, left_together, refused_by_start, refused_by_room, accepted_pass_lem}

-- Lists for which d and a actions stand, whichever these are.
abbrev some_action : Action
some_action = record { range = range_at 0 0 0 0 0 0; kind = ImplicitlyInitialized }

abbrev stood : List ℕ → ℕ → Lists
stood d a = record { discards = surfaces_in d; actions = replicate a some_action; clears = [] }

stood_for : (d : List ℕ) (a : ℕ) → a ≡ length (stood d a).actions
stood_for d a = sym (length-replicate a some_action)

module _ (S : Session) (p : Pass) (d : List ℕ) (a : ℕ) (asked : Summarizable S d a) where
  refused : (r : PassSummary) (v : Verdict) → ((l : Lists) → StandFor d a l → check_pass S p l ≡ refused_pass v l) → r ≡ refused_summary v a → Summarized S p d a r d
  refused r v o e = record {
    said = λ l for. e ∙ (λ i. refused_summary v (for.actions i)) ∙ sym (ap summary (o l for));
    left = λ l for. record { discards = for.discards ∙ sym (ap (λ q. q.lists.discards) (o l for)); actions = ap (λ q. q.actions) e ∙ for.actions ∙ sym (ap (λ q. length q.lists.actions) (o l for)) };
    held = asked.held;
    few_actions = omega (arith, ap (λ q. q.actions) e, asked.actions);
    few_clears = omega (arith, ap (λ q. q.clears) e);
  }

  pub stopped : (r : PassSummary) (v : Verdict) → v ≡ (check S p).verdict → is_accepted v ≡ false → r ≡ refused_summary v a → Summarized S p d a r d
  stopped r v ev h e = refused r v (λ l for. refused_by_start S p l (ap is_accepted (sym ev) ∙ h) ∙ ap (λ q. refused_pass q l) (sym ev)) e

  -- What a pass that 5, 10 to 48 and 51 accept finds.
  module _ (ok : is_accepted (check S p).verdict ≡ true) (ps : List Plan) (t : Tally) (v : Verdict) (are : ps ≡ map plan_of (attachments S p)) (counted : TallyOf ps (surfaces_in d) t)
      (told : v ≡ room_by t a) where
    verdict : (l : Lists) → StandFor d a l → v ≡ room_verdict (attachments S p) (new_pass l)
    verdict l for =
        told ∙ room_told (attachments S p) ps t (new_pass l) are (pass_separate S asked.views p ok)
        (subst (λ q. TallyOf ps q t) for.discards counted) a for.actions

    pub no_room : (r : PassSummary) → is_accepted v ≡ false → r ≡ refused_summary v a → Summarized S p d a r d
    no_room r h e = refused r v (λ l for. refused_by_room S p l v ok (verdict l for) h) e

    module _ (h : is_accepted v ≡ true) where
      few_held : length (surfaces_in d) ≤ max_discards
      few_held = omega (arith, asked.held.count, list_length surface_bytes surface_of d)

      -- There is room.
      room : is_accepted (room_by t a) ≡ true
      room = ap is_accepted (sym told) ∙ h

      discards_after : length (staying_all ps (surfaces_in d) ++ listed_all ps) ≤ max_discards
      discards_after = few_discards (attachments S p) ps t (stood d a) are (pass_separate S asked.views p ok) counted a (stood_for d a) room few_held

      pub lendable : LentDiscards ps t.leaving d
      lendable = record {
        held = asked.held;
        counted = counted.leaving;
        layers = few_layered S p asked.textures asked.views ok ps are;
        room = record { bytes = omega (arith, discards_after, asked.held.long); small = omega (arith, discards_after) };
      }

      -- Accepted.
      pub recorded : (r : PassSummary) (d' : List ℕ) (seen : Seen) → seen ≡ (check S p).seen → length d' ≡ length d
          → SurfacesBecome (staying_all ps (surfaces_in d) ++ listed_all ps) d d'
          → r ≡ record { verdict = accepted; width = seen.width; height = seen.height; samples = seen.samples; clears = t.returned; actions = a + t.added } → Summarized S p d a r d'
      recorded r d' seen es long left e =
          let xs = attachments S p in
          let apart = pass_separate S asked.views p ok in
          let o : (l : Lists) → StandFor d a l → check_pass S p l ≡ accepted_pass S (check S p).seen xs l = λ l for. accepted_pass_lem S p l v ok (verdict l for) h in
          let of : (l : Lists) → StandFor d a l → TallyOf ps l.discards t = λ l for. subst (λ q. TallyOf ps q t) for.discards counted in
          let all : (l : Lists) → StandFor d a l → together ps (new_pass l) ≡ attach_all xs (new_pass l) = λ l for. left_together xs ps t l are apart (of l for) in
          let added : (l : Lists) → StandFor d a l → a + t.added ≡ length (attach_all xs (new_pass l)).actions =
          λ l for. omega (arith, for.actions, (of l for).added, length-append l.actions (added_all ps l.discards), ap (λ (q : Lists). length q.actions) (all l for)) in
          record {
            said = λ l for. e ∙ (λ i. record {
              verdict = accepted;
              width = (es i).width;
              height = (es i).height;
              samples = (es i).samples;
              clears = ((of l for).returned ∙ ap (λ (q : Lists). length q.clears) (all l for)) i;
              actions = added l for i;
            }) ∙ sym (ap summary (o l for));
            left = λ l for. record {
              discards = left.list ∙ ap (λ q. staying_all ps q ++ listed_all ps) for.discards ∙ ap (λ (q : Lists). q.discards) (all l for) ∙ sym (ap (λ q. q.lists.discards) (o l for));
              actions = ap (λ q. q.actions) e ∙ added l for ∙ sym (ap (λ q. length q.lists.actions) (o l for));
            };
            held = record { long = omega (arith, asked.held.long, long); count = omega (arith, becomes_count left, discards_after) };
            few_actions = omega (arith, ap (λ q. q.actions) e, few_actions xs ps t (stood d a) are apart counted a (stood_for d a) room few_held);
            few_clears = omega (arith, ap (λ q. q.clears) e, few_returned xs ps t (stood d a) are apart counted a (stood_for d a) room few_held);
          }
