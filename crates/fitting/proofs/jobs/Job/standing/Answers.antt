use Rattle.std.proofs.lemmas.Bool.Decides.{not_from_Decides}
use Rattle.fitting.specs.Jobs.{small, no_fit}
use Rattle.fitting.proofs.Rules.{lawful_pattern}
use Rattle.fitting.proofs.Standing.{none_lacking, none_fitting, one_stands}
use Rattle.fitting.proofs.jobs.Job.standing.Goals as goal

pub returns-then-is_small-clause-tells : goal.returns-then-is_small-clause-tells
returns-then-is_small-clause-tells g c = small (c.is_small.ensures.0 c.if-is_small.true)

pub returns-in_default : goal.returns-in_default
returns-in_default g c = record {
  tells = no_fit (not_from_Decides c.is_small.result c.is_small.ensures c.if-is_small.false) (λ s. c.in_default.not-At s.at s.is);
  holder = tt;
}

pub returns-in_default-rule-clause-tells : goal.returns-in_default-rule-clause-tells
returns-in_default-rule-clause-tells g c = no_fit
    (not_from_Decides c.is_small.result c.is_small.ensures c.if-is_small.false)
    (none_lacking c.in-At.key c.in-At.is c.in_default-rule.ensures.held)

pub fit_of-requires-clause-pattern : goal.fit_of-requires-clause-pattern
fit_of-requires-clause-pattern g c = lawful_pattern c.in-Some.ensures.held.2

pub returns-in-Some-fit_of-clause-tells : goal.returns-in-Some-fit_of-clause-tells
returns-in-Some-fit_of-clause-tells g c =
    let r = c.in-Some.ensures.held in
    let h = c.in-Some-fit_of.ensures in (
      not_from_Decides c.is_small.result c.is_small.ensures c.if-is_small.false,
      one_stands c.in-At.key r.0 c.in-Some.rule c.in-Some-fit_of.fit c.in-At.is r.1 r.2 h.text h.fit,
    )

pub returns-in-None-clause-tells : goal.returns-in-None-clause-tells
returns-in-None-clause-tells g c =
    let r = c.in-Some.ensures.held in
    no_fit
    (not_from_Decides c.is_small.result c.is_small.ensures c.if-is_small.false)
    (none_fitting c.in-At.key r.0 c.in-Some.rule c.in-At.is r.1 r.2 c.in-None.ensures.fit)
