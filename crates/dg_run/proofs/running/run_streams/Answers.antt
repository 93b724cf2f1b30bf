-- Words that are refused leave the output as it was; what was asked for is refused as `perform` refuses it.
use Rattle.dg_run.proofs.Common.{refl, sym, inl, inr, Words}
use Rattle.dg_run.proofs.Serving.{as_it_was}
use Rattle.dg_run.proofs.running.run_streams.Goals as goal

pub returns-in-Err-clause-failed : goal.returns-in-Err-clause-failed
returns-in-Err-clause-failed g c differ = record {
  fault = Words c.in-Err.fault;
  tells = sym c.report-in-Err.ensures;
  cause = inl (record {
    why = c.in-Err.fault;
    tells = refl;
    refused = c.in-Err.ensures.refused;
    left = refl;
    kept = as_it_was c.args.output.now.contents;
  });
}

pub returns-in-Err-perform-clause-failed : goal.returns-in-Err-perform-clause-failed
returns-in-Err-perform-clause-failed g c differ = record {
  fault = c.in-Err-perform.fault;
  tells = sym c.report.ensures;
  cause = inr (record {
    asked = c.in-Ok.asked;
    wanted = c.in-Ok.ensures.asked;
    refused = c.in-Err-perform.ensures.refused;
    left = c.in-Err-perform.ensures.left;
    read = c.in-Err-perform.ensures.read;
    noted = c.in-Err-perform.ensures.noted;
    write = c.in-Err-perform.ensures.write;
  });
}
