-- All before the passes is copied, the passes are rearranged behind it.
use Rattle.std.proofs.Common.{◌++◌, ◌∙◌, ap, arith, drop, length-take}
use Rattle.column_files.proofs.Theorem.{start_inside}
use Rattle.column_files.proofs.Written.{session_fits, printed_from}
use Rattle.column_files.proofs.put_rearranged.Goals as goal

pub slice_bounds-copy_from_slice-end-2 : goal.slice_bounds-copy_from_slice-end-2
slice_bounds-copy_from_slice-end-2 c =
    let s = c.args.session.bytes.now in
    simp length-take (omega (arith, start_inside s c.args.session.readable, session_fits s c.args.session.readable))

pub copy_from_slice-requires : goal.copy_from_slice-requires
copy_from_slice-requires c =
    let s = c.args.session.bytes.now in
    simp length-take (omega (arith, start_inside s c.args.session.readable, session_fits s c.args.session.readable))

pub returns : goal.returns
returns c =
    let parts = c.split_at.ensures in
    printed_from c.args.way c.args.session.bytes.now c.args.out.now c.args.session.readable c.requires c.pass_start-start.ensures.0 c.pass_count.ensures
    (ap (λ l. l ++ drop c.pass_start-start.result c.args.out.now) (c.copy_from_slice.ensures.after ∙ parts.front))
    parts.back c.rearrange.ensures
