-- What crates above cite of these proofs.
pub use Rattle.vs_peakcheck.proofs.alike.AlikeClaims.{claims_alike}
pub use Rattle.vs_peakcheck.proofs.alike.JudgedAlike.{judged_alike, rows_judged_alike}
pub use Rattle.vs_peakcheck.proofs.ProvenPeaks.{prove_peaks}
pub use Rattle.vs_peakcheck.proofs.rows.PricedRows.{rows_more}
pub use Rattle.vs_peakcheck.proofs.rows.ReadLayers.{layers_more}
pub use Rattle.vs_peakcheck.proofs.rows.RefusedOnce.{not_refused_claims, refused_once}
pub use Rattle.vs_peakcheck.proofs.problem.PermittedTrips.{all_permitted, all_within, few_permitted, has_number, own_once, place_in, placed}
pub use Rattle.vs_peakcheck.proofs.problem.CountedTrips.{count_is}
pub use Rattle.vs_peakcheck.proofs.problem.CountedLists.{counts_vehicles, least_costs}
