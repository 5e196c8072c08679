use Rattle.std.proofs.Common.{ℕ, leb, rules}
use Rattle.std.proofs.lemmas.List.Sorted.{IsPartitionPoint-from_clause, IsPartitionedBy-leb}
use Rattle.sheet_reader.proofs.OrderForms.{point_is}
use Rattle.sheet_reader.proofs.repairs.places_up_to.Goals as goal

pub returns : goal.returns
returns c =
    let parted = IsPartitionedBy-leb (λ (x : ℕ). x) _ c.args.end c.requires in
    let point =
    IsPartitionPoint-from_clause (λ (x : ℕ). leb x c.args.end) _ _ c.partition_point.ensures.partitioned parted
    (λ a r q k. search rules) in
    record { count = point_is (λ (x : ℕ). leb x c.args.end) _ _ c.partition_point.ensures.bound point }
