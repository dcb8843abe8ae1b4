-- Each verdict has its line.
use Rattle.verdict_lines.proofs.Said.{said-accepted, said-short, said_unequal, said-left, said-wrong}
use Rattle.verdict_lines.proofs.print.Goals as goal

pub returns-in-Accepted : goal.returns-in-Accepted
returns-in-Accepted c = said-accepted c.in-Accepted.is c.accepted.ensures

pub returns-in-Short : goal.returns-in-Short
returns-in-Short c = said-short c.in-Short.is c.point.ensures

pub returns-in-Unequal : goal.returns-in-Unequal
returns-in-Unequal c = said_unequal c.in-Unequal.is c.point-in-Unequal.ensures

pub returns-in-LeftOver : goal.returns-in-LeftOver
returns-in-LeftOver c = said-left c.in-LeftOver.is c.point-in-LeftOver.ensures

pub returns-in-Wrong : goal.returns-in-Wrong
returns-in-Wrong c = said-wrong c.in-Wrong.is c.wrong.ensures
