-- What a check leaves in lent lists, by what refuses the pass.
use Prim.Native.Nat.{◌≤◌}
use native.Mathlib.Omega.{arith}
use Rattle.std.specs.Prelude as code
use mathlib.Core.Path.{◌≡◌, refl, sym, ap, ◌∙◌}
use mathlib.Core.Bool.{true, false, cond}
use mathlib.Core.List.{List, map}
use lib.ListN.{length}
use Rattle.definition.specs.Session.{Pass, Session}
use Rattle.definition.specs.Verdict.{nowhere, is_accepted}
use Rattle.definition.specs.Check.{check}
use Rattle.definition.specs.MemoryInit.{Lists}
use Rattle.definition.specs.Attachments.{depth_stencil_part, attach_all, attachments}
use Rattle.definition.specs.Pass as Def
use Rattle.definition.specs.Pass.{attachment_reply, new_pass, room_verdict, acceptance, accepted_pass, refused_pass, check_pass}
use Rattle.definition.specs.declared.Seen.{Seen}
use Rattle.definition.specs.declared.Verdict.{Verdict}
use Rattle.laws.specs.Plans.{Plan, plan_of, together}
use Rattle.noninterference.proofs.Accepted.{pass_separate}
use Rattle.lists.specs.Lists.{count_in, surface_of, action_of_bytes}
use Rattle.lists.specs.Lent.{ListBytes, lists_in, Leaves}
use Rattle.lists.proofs.Lists.{list_length}
use Rattle.memory_init.specs.declared.tally.Tally.{Tally}
use Rattle.memory_init.specs.Tally.{DiscardsInRoom, TallyOf}
use Rattle.recording.specs.Recording.{Recordable}
use Rattle.attachments.specs.declared.DepthStencilPart.{DepthStencilPart}
use Rattle.attachments.specs.declared.resolve.Attachments.{Attachments}
use Rattle.attachments.specs.Attached.{PartOf, is_depth_read_only, is_stencil_read_only, divergent_in}
use Rattle.attachments.specs.Resolved.{listed}
use Rattle.attachments.proofs.DepthStencil.{depth_first, stencil_first, divergent_first}
use Rattle.definition.specs.Sizes.{max_clears, surface_bytes, action_bytes}
use Rattle.render_pass.specs.declared.Reply.{Reply}
use Rattle.render_pass.specs.Outcome.{replied, room_by, Checkable, Checked}
use Rattle.render_pass.proofs.Outcome.{few_layered, room_told, few_returned, together_fits, left_together, refused_by_start, refused_by_room, accepted_pass_lem}

module _ (S : Session) (p : Pass) (b : ListBytes) (asked : Checkable S b) where
  -- The discards are in their room.
  pub held : DiscardsInRoom b.discards
  held = record { long = asked.long.discards; count = omega (arith, asked.fits.discards, list_length surface_bytes surface_of b.discards) }

  pub actions_in_lem : count_in b.actions ≡ length (lists_in b).actions
  actions_in_lem = sym (list_length action_bytes action_of_bytes b.actions)

  -- A refusal.
  refused : (r : Reply) (v : Verdict) → check_pass S p (lists_in b) ≡ refused_pass v (lists_in b) → is_accepted v ≡ false → r ≡ replied (Def.refusal v) → Checked S p b r b
  refused r v o h e = record {
    reply = e ∙ sym (ap (λ q. replied q.reply) o);
    lists = sym (ap (λ q. q.lists) o);
    refused = λ _. refl;
    rest = record { discards = refl; actions = refl; clears = refl };
  }

  pub stopped : (r : Reply) (v : Verdict) → v ≡ (check S p).verdict → is_accepted v ≡ false → r ≡ replied (Def.refusal v) → Checked S p b r b
  stopped r v ev h e =
      refused r v (refused_by_start S p (lists_in b) (ap is_accepted (sym ev) ∙ h) ∙ ap (λ q. refused_pass q (lists_in b)) (sym ev)) h e

  -- What a pass that 5, 10 to 48 and 51 accept finds.
  module _ (ok : is_accepted (check S p).verdict ≡ true) (ps : List Plan) (t : Tally) (v : Verdict) (are : ps ≡ map plan_of (attachments S p))
      (counted : TallyOf ps (lists_in b).discards t) (told : v ≡ room_by t (count_in b.actions)) where
    verdict : v ≡ room_verdict (attachments S p) (new_pass (lists_in b))
    verdict = told ∙ room_told (attachments S p) ps t (new_pass (lists_in b)) are (pass_separate S asked.views p ok) counted (count_in b.actions) actions_in_lem

    pub no_room : (r : Reply) → is_accepted v ≡ false → r ≡ replied (Def.refusal v) → Checked S p b r b
    no_room r h e = refused r v (refused_by_room S p (lists_in b) v ok verdict h) h e

    module _ (h : is_accepted v ≡ true) where
      -- There is room.
      room : is_accepted (room_by t (count_in b.actions)) ≡ true
      room = ap is_accepted (sym told) ∙ h

      pub recordable : Recordable ps t b
      recordable = record {
        tallied = counted;
        long = asked.long;
        held = held;
        layers = few_layered S p asked.textures asked.views ok ps are;
        fits = together_fits (attachments S p) ps t (lists_in b) are (pass_separate S asked.views p ok) counted (count_in b.actions) actions_in_lem room asked.fits.discards;
      }

      -- The clears are few, so that their number fits a u32.
      pub returned_few : t.returned ≤ max_clears
      returned_few = few_returned (attachments S p) ps t (lists_in b) are (pass_separate S asked.views p ok) counted (count_in b.actions) actions_in_lem room asked.fits.discards

      -- Accepted: what is recorded and replied is the definition's.
      pub recorded : (r : Reply) (b' : ListBytes) (seen : Seen) (d : code.Option DepthStencilPart) (a : Attachments) → seen ≡ (check S p).seen → PartOf S d (depth_stencil_part S p)
          → Leaves (together ps (new_pass (lists_in b))) b b' → a ≡ listed (map (attachment_reply S) (attachments S p))
          → r ≡ record {
            number = 0;
            place = nowhere;
            earlier = nowhere;
            width = seen.width;
            height = seen.height;
            samples = seen.samples;
            depth_read_only = cond (is_depth_read_only d) 1 0;
            stencil_read_only = cond (is_stencil_read_only d) 1 0;
            divergent = divergent_in d;
            clears = t.returned;
            count = a.count;
            attachments = a.records;
          } → Checked S p b r b'
      recorded r b' seen d a es part left ea e =
          let apart = pass_separate S asked.views p ok in
          let xs = attachments S p in
          let o : check_pass S p (lists_in b) ≡ accepted_pass S (check S p).seen xs (lists_in b) = accepted_pass_lem S p (lists_in b) v ok verdict h in
          let all : together ps (new_pass (lists_in b)) ≡ attach_all xs (new_pass (lists_in b)) = left_together xs ps t (lists_in b) are apart counted in
          let returned : t.returned ≡ length (attach_all xs (new_pass (lists_in b))).clears = counted.returned ∙ ap (λ (q : Lists). length q.clears) all in
          let said : r ≡ replied (acceptance S (check S p).seen xs (attach_all xs (new_pass (lists_in b))).clears) = e ∙ λ i. record {
            number = 0;
            place = nowhere;
            earlier = nowhere;
            width = (es i).width;
            height = (es i).height;
            samples = (es i).samples;
            depth_read_only = cond (depth_first S d p part i) 1 0;
            stencil_read_only = cond (stencil_first S d p part i) 1 0;
            divergent = divergent_first S d p part i;
            clears = returned i;
            count = (ea i).count;
            attachments = (ea i).records;
          } in
          let accepting : r ≡ replied (check_pass S p (lists_in b)).reply = said ∙ sym (ap (λ q. replied q.reply) o) in
          record {
            reply = accepting;
            lists = (λ i. record { discards = left.discards.list i; actions = left.actions.list i; clears = left.clears.list i }) ∙ all ∙ sym (ap (λ q. q.lists) o);
            refused = λ no. absurd (no (ap (λ (q : Reply). q.number) e));
            rest = record { discards = left.discards.rest; actions = left.actions.rest; clears = left.clears.rest };
          }
