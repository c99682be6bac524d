-- To compute with the definitions: whoever writes `unfolding computing` opens every definition of this crate, and the floats.
use Rattle.std.specs.Prelude.{ℕ}
use Rattle.definition.specs.Bytes.{u32_at}
use Rattle.definition.specs.Formats.{is_color, aspects, is_format, remove_srgb_suffix, target_cost, with_color, mip_size}
use Rattle.definition.specs.Surfaces.{same, within, hits}
use Rattle.definition.specs.Session.{session, array_layers, slices_in, mips_before, surfaces_before}
use Rattle.definition.specs.Verdict.{◌then◌, unless, unless_against}
use Rattle.definition.specs.Readable.{between, length_valid, header_valid, samples_valid, texture_valid, textures_read, textures_valid, bits_below, usage_among, dimension_fits, format_fits, view_in_texture, view_valid, first_views_valid, session_verdict, channel_reads, depth_stencil_reads, resolve_reads, slot_reads, slots_read, pass_valid}
use Rattle.definition.specs.Channel.{transient_channel, resolve, depth_in_range, resolve_depth, resolve_stencil, resolve_absent, depth_resolved, stencil_resolved}
use Rattle.definition.specs.Views.{renderable, multiview_verdict, view_verdict, slice_verdict, takes, overlap_verdict, depth_stencil_view, color_view, target_view, target_of, resolve_view, see_view}
use Rattle.definition.specs.Check.{slot_ops, color_ops, channel_ops, depth_stencil_ops, ops_verdict, taken_before, sample_bytes, depth_stencil_step, resolve_step, color_step, slot_step, next_slot, slot_steps, mask_verdict, mask_step, view_steps, check}
use Rattle.definition.specs.Status.{filled, cleared, restart, act_byte, empty_byte}
use Rattle.definition.specs.MemoryInit.{register_init_action}
use Rattle.definition.specs.Attachments.{depth_stencil_part, resolve_part, slot_part, slot_parts, attachments, depth_stencil_kind, depth_stencil_discards, depth_stencil_divergent}
use Rattle.definition.specs.Pass.{room_verdict, outcome, check_pass}
use Rattle.definition.specs.Submission.{byte_after}
use Rattle.definition.specs.Calls.{surface_valid, range_valid, counts_valid, lent_valid, pass_call, call}
use Rattle.definition.specs.Program.{deskcheck}

unfoldable pub computing : ℕ
unfolding u32_at is_color aspects is_format remove_srgb_suffix target_cost with_color mip_size same within hits session array_layers slices_in mips_before surfaces_before ◌then◌ unless unless_against between length_valid header_valid samples_valid texture_valid textures_read textures_valid bits_below usage_among dimension_fits format_fits view_in_texture view_valid first_views_valid session_verdict channel_reads depth_stencil_reads resolve_reads slot_reads slots_read pass_valid transient_channel resolve depth_in_range resolve_depth resolve_stencil resolve_absent depth_resolved stencil_resolved renderable multiview_verdict view_verdict slice_verdict takes overlap_verdict depth_stencil_view color_view target_view target_of resolve_view see_view slot_ops color_ops channel_ops depth_stencil_ops ops_verdict taken_before sample_bytes depth_stencil_step resolve_step color_step slot_step next_slot slot_steps mask_verdict mask_step view_steps check filled cleared restart act_byte empty_byte register_init_action depth_stencil_part resolve_part slot_part slot_parts attachments depth_stencil_kind depth_stencil_discards depth_stencil_divergent room_verdict outcome check_pass byte_after surface_valid range_valid counts_valid lent_valid pass_call call deskcheck lib.Ieee.of_bits lib.Ieee.of_fields lib.Ieee.odd lib.Ieee.le lib.Ieee.lt lib.Ieee.eq lib.Ieee.climb lib.Ieee.size lib.Ieee.span
computing = 0
