-- `mapping_vectors::many_pairs` is safe: the 1024 bytes that it lends are a part of the 1028. Assumes nothing.
use Rattle.std.proofs.Common.{rules, sym, length-take-le}
use Rattle.mapping_vectors.proofs.many_pairs.Goals as goal

pub slice_bounds-on_seven_and_nine-end-2 : goal.slice_bounds-on_seven_and_nine-end-2
slice_bounds-on_seven_and_nine-end-2 g c = sym (length-take-le 1024 c.from_fn-bytes.result (search rules))
