-- Lemmas on histories of queues.
mod Histories
mod CallsOfQueues
