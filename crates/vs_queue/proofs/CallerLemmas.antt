-- What crates above cite of the proofs.
pub use Rattle.vs_queue.proofs.heap.Emptying.{all-none, emptied-here, emptied-kept, emptied-was}
