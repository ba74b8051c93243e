-- `graph_vectors::many_vertices` is safe: the fronts that it reads are parts of the 198 bytes. Assumes nothing.
use Rattle.std.proofs.Common.{rules, sym, length-take-le, slice_set}
use Rattle.graph_vectors.proofs.many_vertices.Goals as goal

pub slice_bounds-read-end-2 : goal.slice_bounds-read-end-2
slice_bounds-read-end-2 g c = sym (length-take-le 195 c.vertices-full.result (search rules))

pub slice_bounds-read-end-8 : goal.slice_bounds-read-end-8
slice_bounds-read-end-8 g c = sym (length-take-le 195 (slice_set c.vertices-more.result 195 0) (search rules))

pub slice_bounds-read-end-10 : goal.slice_bounds-read-end-10
slice_bounds-read-end-10 g c = sym (length-take-le 196 (slice_set c.vertices-more.result 195 0) (search rules))
